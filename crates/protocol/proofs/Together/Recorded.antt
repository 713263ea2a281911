-- THE RECORD OF A GOOD MOMENT IS FINE: no slot beyond the table, none in two roles, none that lacks, a legal key, a phase of its
-- own kind of work, and a seat counted.
-- Assumes nothing.
use mathlib.Core.Path.{◌≡◌, sym}
use mathlib.Core.Bool.{Bool, true}
use mathlib.Core.Logic.{◌≢◌}
use Prim.Native.Nat.{ℕ, zero, suc, ◌<◌}
use native.Mathlib.Omega.{arith}
use native.Mathlib.Decide.{ℕ_discrete}
use borrow.Author.Tests.{eq-eqb, ne_eqb, lt-ltb}
use Rattle.tree.specs.Reach.{Tab}
use Rattle.protocol.specs.Plan.{plan}
use Rattle.protocol.specs.Record.{roles}
use Rattle.protocol.specs.declared.Kind.{Kind}
use Rattle.protocol.specs.declared.Kind.TheVariants.{Lookup, Insert, Remove}
use Rattle.protocol.specs.declared.Phase.{Phase}
use Rattle.protocol.specs.declared.Phase.TheVariants.{Walk, OnRouting, New, Two, One, Leaf, UnderData, UnderRouting}
use Rattle.protocol.proofs.Together.Wishes.{locks}
use Rattle.protocol.proofs.Together.Stages.{Stage, walk, look, lock, killed, killed_both, last, view, Knows, case_fits, Fits}
use Rattle.protocol.proofs.Together.Roles.{CaseApart, CaseIn, Apart, Roles, case_in}

-- every noted slot is one of n
abbrev pub StageIn : ℕ → Stage → Type 0
StageIn n (walk a p b d) = (a < n) × (p < n) × (b < n)
StageIn n (look t p b d) = (t < n) × (p < n) × (b < n)
StageIn n (lock c i) = CaseIn n c
StageIn n (killed c) = CaseIn n c
StageIn n (killed_both c) = CaseIn n c
StageIn n (last c) = CaseIn n c

pub inside : (A : Tab) (rho : ℕ → ℕ) (n : ℕ) → ((x : ℕ) → A.state x ≢ 0 → x < n) → (j : Kind) (k : ℕ) (p : Stage)
    → Knows A rho j k p → Roles n p → StageIn n p
inside A rho n f Lookup k (walk a p b d) q u = (f a q.0.0, f p q.1.0.0, f b q.1.1.0.0)
inside A rho n f Insert k (walk a p b d) q u = (f a q.0.0, f p q.1.0.0, f b q.1.1.0.0)
inside A rho n f Remove k (walk a p b d) q u = (f a q.0.0, f p q.1.0.0, f b q.1.1.0.0)
inside A rho n f j k (look t p b d) q u = (f t q.0.0, f p q.1.0.0, f b q.1.1.0.0)
inside A rho n f j k (lock c i) q u = case_in A rho n f k c q.0
inside A rho n f j k (killed c) q u = u.1
inside A rho n f j k (killed_both c) q u = u.1
inside A rho n f j k (last c) q u = u.1

-- THE ROLES, phase by phase

walk_roles : (n : ℕ) (j : Kind) (a p b : ℕ) (s up : Bool) → Apart (walk a p b s) → StageIn n (walk a p b s) → roles n j (Walk a p b s up) ≡ true
unfolding roles
walk_roles n j a p b s up x y = go (ℕ_discrete p 0)
  where
    go : Dec (p ≡ 0) → roles n j (Walk a p b s up) ≡ true
    go (yes e) = rw (lt-ltb a n y.0, lt-ltb p n y.1, lt-ltb b n y.2, eq-eqb p 0 e, eq-eqb b 0 (x.4 e))
    go (no e) =
        let a0 : a ≢ 0 = λ z. e (x.3 z) in
        rw (
          lt-ltb a n y.0,
          lt-ltb p n y.1,
          lt-ltb b n y.2,
          ne_eqb p 0 e,
          ne_eqb a 0 a0,
          ne_eqb a p (λ z. x.0 a0 (sym z)),
          ne_eqb a b (λ z. x.2 a0 (sym z)),
          ne_eqb p b (λ z. x.1 e (sym z)),
        )

look_roles : (n : ℕ) (j : Kind) (t p b : ℕ) (s up : Bool) → j ≡ Remove → Apart (look t p b s) → StageIn n (look t p b s)
    → roles n j (Leaf t p s b up) ≡ true
unfolding roles
look_roles n j t p b s up k x y = rw k (go (ℕ_discrete p 0))
  where
    go : Dec (p ≡ 0) → roles n Remove (Leaf t p s b up) ≡ true
    go (yes e) =
        rw (
          ne_eqb t 0 x.0,
          lt-ltb t n y.0,
          lt-ltb p n y.1,
          lt-ltb b n y.2,
          ne_eqb t p (λ z. x.1 (sym z)),
          ne_eqb t b (λ z. x.3 (sym z)),
          eq-eqb p 0 e,
          eq-eqb b 0 (x.4 e),
        )
    go (no e) =
        rw (
          ne_eqb t 0 x.0,
          lt-ltb t n y.0,
          lt-ltb p n y.1,
          lt-ltb b n y.2,
          ne_eqb t p (λ z. x.1 (sym z)),
          ne_eqb t b (λ z. x.3 (sym z)),
          ne_eqb p 0 e,
          ne_eqb p b (λ z. x.2 e (sym z)),
        )

routing_roles : (n : ℕ) (j : Kind) (t i : ℕ) → case_fits j (OnRouting t 0) → i < 3 → CaseApart (OnRouting t 0) → CaseIn n (OnRouting t 0)
    → roles n j (OnRouting t i) ≡ true
unfolding roles
routing_roles n Lookup t i f l x y = absurd f
routing_roles n Insert t i f l x y = rw (ne_eqb t 0 x, lt-ltb t n y, lt-ltb i 3 l)
routing_roles n Remove t i f l x y = absurd f

new_roles : (n : ℕ) (j : Kind) (p : ℕ) (s : Bool) (i : ℕ) → case_fits j (New p s 0) → i < 4 → CaseApart (New p s 0) → CaseIn n (New p s 0)
    → roles n j (New p s i) ≡ true
unfolding roles
new_roles n Lookup p s i f l x y = absurd f
new_roles n Insert p s i f l x y = rw (lt-ltb p n y, lt-ltb i 4 l)
new_roles n Remove p s i f l x y = absurd f

two_roles : (n : ℕ) (j : Kind) (t i : ℕ) → case_fits j (Two t 0) → i < 3 → CaseApart (Two t 0) → CaseIn n (Two t 0) → roles n j (Two t i) ≡ true
unfolding roles
two_roles n Lookup t i f l x y = absurd f
two_roles n Insert t i f l x y = absurd f
two_roles n Remove t i f l x y = rw (ne_eqb t 0 x, lt-ltb t n y, lt-ltb i 3 l)

one_roles : (n : ℕ) (j : Kind) (t p : ℕ) (s : Bool) (c : ℕ) (cs : Bool) (i : ℕ) → case_fits j (One t p s c cs 0) → i < 6
    → CaseApart (One t p s c cs 0) → CaseIn n (One t p s c cs 0) → roles n j (One t p s c cs i) ≡ true
unfolding roles
one_roles n Lookup t p s c cs i f l x y = absurd f
one_roles n Insert t p s c cs i f l x y = absurd f
one_roles n Remove t p s c cs i f l x y =
    rw (
      ne_eqb t 0 x.0,
      lt-ltb t n y.0,
      lt-ltb p n y.1,
      ne_eqb c 0 x.1,
      lt-ltb c n y.2,
      ne_eqb t p (λ z. x.2 (sym z)),
      ne_eqb t c x.3,
      ne_eqb p c x.4,
      lt-ltb i 6 l,
    )

data_roles : (n : ℕ) (j : Kind) (t p : ℕ) (s : Bool) (i : ℕ) → case_fits j (UnderData t p s 0) → i < 6
    → CaseApart (UnderData t p s 0) → CaseIn n (UnderData t p s 0) → roles n j (UnderData t p s i) ≡ true
unfolding roles
data_roles n Lookup t p s i f l x y = absurd f
data_roles n Insert t p s i f l x y = absurd f
data_roles n Remove t p s i f l x y =
    rw (ne_eqb t 0 x.0, lt-ltb t n y.0, lt-ltb p n y.1, ne_eqb t p (λ z. x.1 (sym z)), lt-ltb i 6 l)

under_roles : (n : ℕ) (j : Kind) (t p : ℕ) (s : Bool) (a : ℕ) (up : Bool) (o i : ℕ) → case_fits j (UnderRouting t p s a up o 0) → i < 9
    → CaseApart (UnderRouting t p s a up o 0) → CaseIn n (UnderRouting t p s a up o 0) → roles n j (UnderRouting t p s a up o i) ≡ true
unfolding roles
under_roles n Lookup t p s a up o i f l x y = absurd f
under_roles n Insert t p s a up o i f l x y = absurd f
under_roles n Remove t p s a up o i f l x y =
    rw (
      ne_eqb t 0 x.0,
      lt-ltb t n y.0,
      ne_eqb p 0 x.8,
      lt-ltb p n y.1,
      lt-ltb a n y.2,
      ne_eqb o 0 x.1,
      lt-ltb o n y.3,
      ne_eqb t p (λ z. x.2 (sym z)),
      ne_eqb t a (λ z. x.4 (sym z)),
      ne_eqb t o (λ z. x.7 (sym z)),
      ne_eqb p a (λ z. x.3 (sym z)),
      ne_eqb p o x.5,
      ne_eqb a o x.6,
      lt-ltb i 9 l,
    )

pub roles_view : (n : ℕ) (j : Kind) (p : Phase) → Fits j (view p) → Apart (view p) → StageIn n (view p) → roles n j p ≡ true
unfolding locks plan
roles_view n j (Walk a p b s up) f x y = walk_roles n j a p b s up x y
roles_view n j (Leaf t p s b up) f x y = look_roles n j t p b s up f x y
roles_view n j (OnRouting t zero) f x y = routing_roles n j t 0 f.0 (omega arith) x y
roles_view n j (OnRouting t (suc zero)) f x y = routing_roles n j t 1 f.0 (omega arith) x y
roles_view n j (OnRouting t (suc (suc zero))) f x y = routing_roles n j t 2 (f) (omega arith) x y
roles_view n j (OnRouting t (suc (suc (suc i)))) f x y = absurd (omega (arith, f.1))
roles_view n j (New p s zero) f x y = new_roles n j p s 0 f.0 (omega arith) x y
roles_view n j (New p s (suc zero)) f x y = new_roles n j p s 1 f.0 (omega arith) x y
roles_view n j (New p s (suc (suc zero))) f x y = new_roles n j p s 2 f.0 (omega arith) x y
roles_view n j (New p s (suc (suc (suc zero)))) f x y = new_roles n j p s 3 (f) (omega arith) x y
roles_view n j (New p s (suc (suc (suc (suc i))))) f x y = absurd (omega (arith, f.1))
roles_view n j (Two t zero) f x y = two_roles n j t 0 f.0 (omega arith) x y
roles_view n j (Two t (suc zero)) f x y = two_roles n j t 1 f.0 (omega arith) x y
roles_view n j (Two t (suc (suc zero))) f x y = two_roles n j t 2 (f) (omega arith) x y
roles_view n j (Two t (suc (suc (suc i)))) f x y = absurd (omega (arith, f.1))
roles_view n j (One t p s c cs zero) f x y = one_roles n j t p s c cs 0 f.0 (omega arith) x y
roles_view n j (One t p s c cs (suc zero)) f x y = one_roles n j t p s c cs 1 f.0 (omega arith) x y
roles_view n j (One t p s c cs (suc (suc zero))) f x y = one_roles n j t p s c cs 2 f.0 (omega arith) x y
roles_view n j (One t p s c cs (suc (suc (suc zero)))) f x y = one_roles n j t p s c cs 3 f.0 (omega arith) x y
roles_view n j (One t p s c cs (suc (suc (suc (suc zero))))) f x y = one_roles n j t p s c cs 4 f.0 (omega arith) x y
roles_view n j (One t p s c cs (suc (suc (suc (suc (suc zero)))))) f x y = one_roles n j t p s c cs 5 (f) (omega arith) x y
roles_view n j (One t p s c cs (suc (suc (suc (suc (suc (suc i))))))) f x y = absurd (omega (arith, f.1))
roles_view n j (UnderData t p s zero) f x y = data_roles n j t p s 0 f.0 (omega arith) x y
roles_view n j (UnderData t p s (suc zero)) f x y = data_roles n j t p s 1 f.0 (omega arith) x y
roles_view n j (UnderData t p s (suc (suc zero))) f x y = data_roles n j t p s 2 f.0 (omega arith) x y
roles_view n j (UnderData t p s (suc (suc (suc zero)))) f x y = data_roles n j t p s 3 f.0 (omega arith) x y
roles_view n j (UnderData t p s (suc (suc (suc (suc zero))))) f x y = data_roles n j t p s 4 f.0 (omega arith) x y
roles_view n j (UnderData t p s (suc (suc (suc (suc (suc zero)))))) f x y = data_roles n j t p s 5 (f) (omega arith) x y
roles_view n j (UnderData t p s (suc (suc (suc (suc (suc (suc i))))))) f x y = absurd (omega (arith, f.1))
roles_view n j (UnderRouting t p s a up o zero) f x y = under_roles n j t p s a up o 0 f.0 (omega arith) x y
roles_view n j (UnderRouting t p s a up o (suc zero)) f x y = under_roles n j t p s a up o 1 f.0 (omega arith) x y
roles_view n j (UnderRouting t p s a up o (suc (suc zero))) f x y = under_roles n j t p s a up o 2 f.0 (omega arith) x y
roles_view n j (UnderRouting t p s a up o (suc (suc (suc zero)))) f x y = under_roles n j t p s a up o 3 f.0 (omega arith) x y
roles_view n j (UnderRouting t p s a up o (suc (suc (suc (suc zero))))) f x y = under_roles n j t p s a up o 4 f.0 (omega arith) x y
roles_view n j (UnderRouting t p s a up o (suc (suc (suc (suc (suc zero)))))) f x y = under_roles n j t p s a up o 5 f.0 (omega arith) x y
roles_view n j (UnderRouting t p s a up o (suc (suc (suc (suc (suc (suc zero))))))) f x y = under_roles n j t p s a up o 6 f.0 (omega arith) x y
roles_view n j (UnderRouting t p s a up o (suc (suc (suc (suc (suc (suc (suc zero)))))))) f x y = under_roles n j t p s a up o 7 f.0 (omega arith) x y
roles_view n j (UnderRouting t p s a up o (suc (suc (suc (suc (suc (suc (suc (suc zero))))))))) f x y = under_roles n j t p s a up o 8 (f) (omega arith) x y
roles_view n j (UnderRouting t p s a up o (suc (suc (suc (suc (suc (suc (suc (suc (suc i)))))))))) f x y = absurd (omega (arith, f.1))
