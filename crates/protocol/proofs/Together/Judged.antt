-- WHAT A STEP OF A GOOD MOMENT READS IS FINE, AND WHAT IT GIVES UP IS HELD.
-- Assumes nothing.
use mathlib.Core.Path.{◌≡◌, refl, ap, ◌∙◌}
use mathlib.Core.Bool.{Bool, true, false}
use mathlib.Core.List.{List, [], ◌∷◌, ◌++◌}
use mathlib.Core.Logic.{inl, inr, ◌≢◌}
use Prim.Native.Nat.{ℕ, zero, suc, ◌≤◌, ◌<◌}
use native.Mathlib.Omega.{arith}
use lib.ListN.{length, take}
use lib.Seq.{take-suc}
use borrow.Author.Tests.{eq-eqb, le-leb}
use Rattle.table.specs.Pair.{state_of, lock_of}
use Rattle.table.specs.Rules.{pair_fine}
use Rattle.table.specs.declared.Which.{Which}
use Rattle.tree.specs.Reach.{tab_of}
use Rattle.protocol.specs.Plan.{plan, action_at, action_of, done_of}
use Rattle.protocol.specs.Locks.{weight, holds, held_one, all_held}
use Rattle.protocol.specs.Step.{reads_fine}
use Rattle.protocol.specs.declared.Kind.{Kind}
use Rattle.protocol.specs.declared.Kind.TheVariants.{Lookup, Insert, Remove}
use Rattle.protocol.specs.declared.Phase.{Phase}
use Rattle.protocol.specs.declared.Phase.TheVariants.{Walk, OnRouting, New, Two, One, Leaf, UnderData, UnderRouting}
use Rattle.protocol.specs.declared.Action.{Action}
use Rattle.protocol.specs.declared.Action.TheVariants.{Visit, Look, Lock, Mark, Link, Take, End, Beyond}
use Rattle.protocol.proofs.Paths.Shape.{Shape}
use Rattle.protocol.proofs.Together.Locks.{Held, Among, unit_own, units}
use Rattle.protocol.proofs.Together.Facts.{Holds}
use Rattle.protocol.proofs.Together.Wishes.{All, All_at, Wish, lock_in, locks_in, locks, held_of, helds}
use Rattle.protocol.proofs.Together.Stages.{walk, view, held_in, base, Knows, Fits}
use Rattle.protocol.proofs.Together.Moves.{nowish, next_lock, noted}
use Rattle.protocol.proofs.Together.Holding.{wishes_in, held_wishes, wishes_view, locks_snoc}
use Rattle.protocol.proofs.Together.Acting.{first, not_none}

-- ALL THAT ARE DONE ARE HELD, if each is

abbrev pub OkWish : List ℕ → Wish → Type 0
OkWish ws w = held_one ws (Lock w.slot w.which w.write w.want w.links) ≡ true

all_split : {X : Type 0} (P : X → Type 0) (xs ys : List X) → All P (xs ++ ys) → All P xs × All P ys
all_split P [] ys a = (tt, a)
all_split P (x ∷ xs) ys a = let r = all_split P xs ys a.1 in ((a.0, r.0), r.1)

one_held : (ws : List ℕ) (a : Action) → All (OkWish ws) (lock_in a) → held_one ws a ≡ true
unfolding held_one
one_held ws (Visit at prev before side up) o = refl
one_held ws (Look this prev side before up) o = refl
one_held ws (Lock slot which write state links) o = o.0
one_held ws (Mark slot to) o = refl
one_held ws (Link slot side to) o = refl
one_held ws (Take prev side) o = refl
one_held ws End o = refl
one_held ws Beyond o = refl

all_held_lem : (ws : List ℕ) (p : Phase) (n : ℕ) → n ≤ length (plan p) → All (OkWish ws) (locks_in (take n (plan p))) → all_held ws p n ≡ true
unfolding all_held action_at
all_held_lem ws p zero l o = refl
all_held_lem ws p (suc n) l o =
    let e = ap locks_in (take-suc (plan p) n Beyond l) ∙ locks_snoc (take n (plan p)) (action_at p n) in
    let r = all_split (OkWish ws) (locks_in (take n (plan p))) (lock_in (action_at p n)) (rw e at o) in
    rw (all_held_lem ws p n (omega arith) r.0, one_held ws (action_at p n) r.1)

each : (P : Held → Type 0) (Q : Wish → Type 0) → ((w : Wish) → P (held_of w) → Q w) → (xs : List Wish) → ((h : Held) → Among (helds xs) h → P h) → All Q xs
each P Q f [] g = tt
each P Q f (x ∷ xs) g = (f x (g (held_of x) (inl refl)), each P Q f xs (λ h m. g h (inr m)))

has_weight : (hs : List Held) (h : Held) → Among hs h → weight h.write ≤ units h.slot h.which hs
unfolding units
has_weight [] h m = absurd m
has_weight (x ∷ xs) h (inl e) = rw (e, unit_own h) (omega arith)
has_weight (x ∷ xs) h (inr m) = omega (arith, has_weight xs h m)

weight_more : (b : Bool) → 0 < weight b
weight_more true = omega arith
weight_more false = omega arith

-- what is held is there
module _ (ws : List ℕ) (pair : (i : ℕ) → state_of ws i ≢ 0 → pair_fine ws i ≡ true) (bare : (i : ℕ) (l : Which) → state_of ws i ≡ 0 → lock_of ws i l ≡ 0) where
  held_ok : (hs : List Held) → ((x : ℕ) (l : Which) → units x l hs ≤ lock_of ws x l) → ((h : Held) → Among hs h → h.write ≡ true → lock_of ws h.slot h.which ≡ 1)
      → (h : Held) → Among hs h → (pair_fine ws h.slot ≡ true) × (holds h.write (lock_of ws h.slot h.which) ≡ true)
  unfolding holds
  held_ok hs u f h m = (pair h.slot some, value h.write refl)
    where
      least : weight h.write ≤ lock_of ws h.slot h.which
      least = omega (arith, has_weight hs h m, u h.slot h.which)

      some : state_of ws h.slot ≢ 0
      some e = omega (arith, bare h.slot h.which e, weight_more h.write, least)

      value : (b : Bool) → h.write ≡ b → holds b (lock_of ws h.slot h.which) ≡ true
      value true e = eq-eqb (lock_of ws h.slot h.which) 1 (f h m e)
      value false e = le-leb 2 (lock_of ws h.slot h.which) (omega (arith, least, ap weight e))

  pub view_held : (j : Kind) (p : Phase) → Fits j (view p) → ((x : ℕ) (l : Which) → units x l (held_in (view p)) ≤ lock_of ws x l)
      → ((h : Held) → Among (held_in (view p)) h → h.write ≡ true → lock_of ws h.slot h.which ≡ 1) → all_held ws p (done_of p) ≡ true
  unfolding held_one
  view_held j p f u g =
      let e = wishes_view j p f in
      all_held_lem ws p (done_of p) (omega (arith, e.1))
      (rw e.0
      (each (λ h. (pair_fine ws h.slot ≡ true) × (holds h.write (lock_of ws h.slot h.which) ≡ true)) (OkWish ws) (λ w o. rw (o.0, o.1)) (wishes_in (view p))
      (λ h m. held_ok (held_in (view p)) u g h (rw (held_wishes (view p)) m))))

-- THE PAIR THAT THE NEXT ACTION READS
module _ (ws : List ℕ) {rho : ℕ → ℕ} (h : Shape (tab_of ws) rho) (pair : (i : ℕ) → state_of ws i ≢ 0 → pair_fine ws i ≡ true) (j : Kind) (k : ℕ) where
  lock_reads : (a : Action) (c : Phase) (i : ℕ) → lock_in a ≡ next_lock c i ∷ [] → i < length (locks c) → All (Holds (tab_of ws) rho) (base k c) → reads_fine ws a ≡ true
  unfolding reads_fine
  lock_reads (Visit at prev before side up) c i e l q = absurd (not_none e)
  lock_reads (Look this prev side before up) c i e l q = absurd (not_none e)
  lock_reads (Lock slot which write state links) c i e l q =
      pair slot (rw (← (ap (λ (w : Wish). w.slot) (ap first e))) at (All_at (λ w. state_of ws w.slot ≢ 0) (locks c) nowish i l (noted h k c q)))
  lock_reads (Mark slot to) c i e l q = absurd (not_none e)
  lock_reads (Link slot side to) c i e l q = absurd (not_none e)
  lock_reads (Take prev side) c i e l q = absurd (not_none e)
  lock_reads End c i e l q = absurd (not_none e)
  lock_reads Beyond c i e l q = absurd (not_none e)

  walk_some : (j : Kind) (a p b : ℕ) (s : Bool) → Knows (tab_of ws) rho j k (walk a p b s) → state_of ws a ≢ 0
  walk_some Lookup a p b s q = q.0.0
  walk_some Insert a p b s q = q.0.0
  walk_some Remove a p b s q = q.0.0

  pub reads_view : (p : Phase) → Fits j (view p) → Knows (tab_of ws) rho j k (view p) → reads_fine ws (action_of p) ≡ true
  unfolding locks plan action_at reads_fine
  reads_view (Walk at prev before side up) f q = pair at (walk_some j at prev before side q)
  reads_view (Leaf t p s b up) f q = pair p q.1.0.0
  reads_view (OnRouting t zero) f q = lock_reads (action_of (OnRouting t 0)) (OnRouting t 0) 0 refl (omega arith) q.0
  reads_view (OnRouting t (suc zero)) f q = pair t q.0.0.0
  reads_view (OnRouting t (suc (suc zero))) f q = refl
  reads_view (OnRouting t (suc (suc (suc n)))) f q = absurd (omega (arith, f.1))
  reads_view (New p s zero) f q = lock_reads (action_of (New p s 0)) (New p s 0) 0 refl (omega arith) q.0
  reads_view (New p s (suc zero)) f q = lock_reads (action_of (New p s 1)) (New p s 0) 1 refl (omega arith) q.0
  reads_view (New p s (suc (suc zero))) f q = pair p q.0.0.0
  reads_view (New p s (suc (suc (suc zero)))) f q = refl
  reads_view (New p s (suc (suc (suc (suc n))))) f q = absurd (omega (arith, f.1))
  reads_view (Two t zero) f q = lock_reads (action_of (Two t 0)) (Two t 0) 0 refl (omega arith) q.0
  reads_view (Two t (suc zero)) f q = pair t q.0.0.0
  reads_view (Two t (suc (suc zero))) f q = refl
  reads_view (Two t (suc (suc (suc n)))) f q = absurd (omega (arith, f.1))
  reads_view (One t p s c cs zero) f q = lock_reads (action_of (One t p s c cs 0)) (One t p s c cs 0) 0 refl (omega arith) q.0
  reads_view (One t p s c cs (suc zero)) f q = lock_reads (action_of (One t p s c cs 1)) (One t p s c cs 0) 1 refl (omega arith) q.0
  reads_view (One t p s c cs (suc (suc zero))) f q = lock_reads (action_of (One t p s c cs 2)) (One t p s c cs 0) 2 refl (omega arith) q.0
  reads_view (One t p s c cs (suc (suc (suc zero)))) f q = pair t q.0.0.0
  reads_view (One t p s c cs (suc (suc (suc (suc zero))))) f q = pair p q.1.0.0
  reads_view (One t p s c cs (suc (suc (suc (suc (suc zero)))))) f q = refl
  reads_view (One t p s c cs (suc (suc (suc (suc (suc (suc n))))))) f q = absurd (omega (arith, f.1))
  reads_view (UnderData t p s zero) f q = lock_reads (action_of (UnderData t p s 0)) (UnderData t p s 0) 0 refl (omega arith) q.0
  reads_view (UnderData t p s (suc zero)) f q = lock_reads (action_of (UnderData t p s 1)) (UnderData t p s 0) 1 refl (omega arith) q.0
  reads_view (UnderData t p s (suc (suc zero))) f q = lock_reads (action_of (UnderData t p s 2)) (UnderData t p s 0) 2 refl (omega arith) q.0
  reads_view (UnderData t p s (suc (suc (suc zero)))) f q = pair t q.0.0.0
  reads_view (UnderData t p s (suc (suc (suc (suc zero))))) f q = pair p q.0.0
  reads_view (UnderData t p s (suc (suc (suc (suc (suc zero)))))) f q = refl
  reads_view (UnderData t p s (suc (suc (suc (suc (suc (suc n))))))) f q = absurd (omega (arith, f.1))
  reads_view (UnderRouting t p s a up o zero) f q = lock_reads (action_of (UnderRouting t p s a up o 0)) (UnderRouting t p s a up o 0) 0 refl (omega arith) q.0
  reads_view (UnderRouting t p s a up o (suc zero)) f q = lock_reads (action_of (UnderRouting t p s a up o 1)) (UnderRouting t p s a up o 0) 1 refl (omega arith) q.0
  reads_view (UnderRouting t p s a up o (suc (suc zero))) f q = lock_reads (action_of (UnderRouting t p s a up o 2)) (UnderRouting t p s a up o 0) 2 refl (omega arith) q.0
  reads_view (UnderRouting t p s a up o (suc (suc (suc zero)))) f q = lock_reads (action_of (UnderRouting t p s a up o 3)) (UnderRouting t p s a up o 0) 3 refl (omega arith) q.0
  reads_view (UnderRouting t p s a up o (suc (suc (suc (suc zero))))) f q = lock_reads (action_of (UnderRouting t p s a up o 4)) (UnderRouting t p s a up o 0) 4 refl (omega arith) q.0
  reads_view (UnderRouting t p s a up o (suc (suc (suc (suc (suc zero)))))) f q = pair t q.0.0.0
  reads_view (UnderRouting t p s a up o (suc (suc (suc (suc (suc (suc zero))))))) f q = pair p q.0.0
  reads_view (UnderRouting t p s a up o (suc (suc (suc (suc (suc (suc (suc zero)))))))) f q = pair a q.1.1.1.1.1.0.0
  reads_view (UnderRouting t p s a up o (suc (suc (suc (suc (suc (suc (suc (suc zero))))))))) f q = refl
  reads_view (UnderRouting t p s a up o (suc (suc (suc (suc (suc (suc (suc (suc (suc n)))))))))) f q = absurd (omega (arith, f.1))
