-- WHAT EACH ANSWER SAYS, when a work changes the set, and how long a lookup takes.
-- Assumes nothing.
use mathlib.Core.Path.{◌≡◌, refl, sym, ap, ◌∙◌}
use mathlib.Core.Bool.{Bool, true, false}
use mathlib.Core.List.{List}
use mathlib.Core.Logic.{◌⊎◌, inl, inr, ⊎_elim}
use Prim.Native.Nat.{ℕ, ◌<◌}
use native.Mathlib.Omega.{arith}
use lib.ListN.{length, get_or}
use Rattle.table.specs.declared.Which.{Which}
use Rattle.tree.specs.Reach.{Tab, Has}
use Rattle.tree.specs.Walk.{Seen}
use Rattle.tree.proofs.Paths.{stop_key, stop_none}
use Rattle.protocol.specs.Says.{going, yes, no, full}
use Rattle.protocol.specs.declared.Kind.{Kind}
use Rattle.protocol.specs.declared.Kind.TheVariants.{Lookup, Insert, Remove}
use Rattle.protocol.specs.declared.Phase.{Phase}
use Rattle.protocol.specs.declared.Phase.TheVariants.{New}
use Rattle.protocol.proofs.Paths.Shape.{absent}
use Rattle.protocol.proofs.Together.Stages.{Stage, walk, look, lock, killed, killed_both, last, Doing, idle, busy, Fine, Fits}
use Rattle.protocol.proofs.Together.Turns.{Effect, plus, minus, none}
use Rattle.protocol.proofs.Together.Ready.{new_ready}
use Rattle.protocol.proofs.Together.Puts.{Put, put_data, put_new, put_routing, kill_one, pass_one, kill_leaf, cut_leaf, kill_under, kill_routing, pass_routing, effect}
use Rattle.protocol.proofs.Together.Bound.{Quick}
use Rattle.protocol.proofs.Together.Machine.{Answer, said, done, Before, Miss, End, look_yes, look_no, ins_no, rem_no, ins_full, last_yes, leave}
use Rattle.protocol.proofs.Together.Inv.{Inv}

-- at a miss the key is not ahead
pub miss : {A : Tab} {k a : ℕ} → Miss A k a → Seen A k a → ⊥
miss {A} (inl (e, n)) (y, t, f, s) = n (ap A.state (stop_key e t) ∙ s)
miss {A} (inr (n, e)) (y, t, f, s) = n (sym f ∙ ap A.key (sym (stop_none e t)))

-- P: the key was out at some moment since the start
abbrev pub Told : Tab → Type 0 → Kind → ℕ → Answer → Type 0
Told A P j k (said going) = Unit {0}
Told A P Lookup k (said yes) = Has A k
Told A P Insert k (said yes) = Unit {0}
Told A P Remove k (said yes) = Unit {0}
Told A P Lookup k (said no) = P
Told A P Insert k (said no) = Has A k
Told A P Remove k (said no) = P
Told A P j k (said full) = Has A k → ⊥
Told A P j k done = Unit {0}

last_told : (A : Tab) (P : Type 0) (i : Kind) (k : ℕ) (c : Phase) → Fits i (last c) → Told A P i k (said yes)
last_told A P Lookup k c f = absurd f
last_told A P Insert k c f = tt
last_told A P Remove k c f = tt

module _ {n : ℕ} {A : Tab} {L : ℕ → Which → ℕ} {ws : List Doing} {O : ℕ → ℕ → Type 0} {T : ℕ → ℕ} (v : Inv n A L ws O T) (a : ℕ) (la : a < length ws) where
  in_set : {k x : ℕ} → k < A.key 0 → A.key x ≡ k → A.state x ≡ 1 → Has A k
  in_set {k} {x} l e s = (x, (λ z. let f = ap A.key z in omega arith), s, e, v.shape.alive x (omega arith))

  -- an insert under its locks: the key is nowhere
  no_place : (i : Kind) (k p : ℕ) (s : Bool) → Fine A v.rho (O a) (busy i k (lock (New p s 0) 2)) → Has A k → ⊥
  no_place i k p s f (y, m, t, e, r) =
      let (u, d, w, n, l) = new_ready A v.rho i k p s f.1 in
      absent v.shape (w.1 l.1) (λ x. d.1 (sym x)) (ap (A.link p) u.1 ∙ n.1) r e

  -- every answer is true: now, or at some moment since the start
  pub told : {i : Kind} {k : ℕ} {p : Stage} {r : Answer} → get_or ws a idle ≡ busy i k p → End A k i p r → Told A (O a k) i k r
  told {i} {k} {p} e t = go (rw e at (v.fine a la)) (rw e at (v.fit a la)) t
    where
      go : {i : Kind} {p : Stage} {r : Answer} → Fine A v.rho (O a) (busy i k p) → Fits i p → End A k i p r → Told A (O a k) i k r
      go f g (look_yes h s) = in_set f.0 h s
      go f g (look_no m) = ⊎_elim (λ s. absurd (miss m s)) (λ o. o) f.2
      go f g (ins_no h s) = in_set f.0 h s
      go f g (rem_no m) = ⊎_elim (λ s. absurd (miss m s)) (λ o. o) f.2
      go f g (ins_full {j = i} {p = p} {s = s}) = no_place i k p s f
      go f g (last_yes {j = i} {c = c}) = last_told A (O a k) i k c g
      go f g (leave b) = tt

  -- a Lookup is walking, and with the step in hand has made at most n
  pub soon : {k : ℕ} {p : Stage} → get_or ws a idle ≡ busy Lookup k p → T a < n
  soon {k} {p} e = go p (rw e at (v.fit a la)) (rw e at (v.quick a la))
    where
      go : (p : Stage) → Fits Lookup p → Quick n A v.rho (T a) (busy Lookup k p) → T a < n
      go (walk x y z s0) f q = omega arith
      go (look x y z s0) f q = absurd (let c : ◌≡◌ {A = ℕ} 0 1 = cc in omega arith)
      go (lock c i) f q = absurd f.0
      go (killed c) f q = absurd f.0
      go (killed_both c) f q = absurd f.0
      go (last c) f q = absurd f

-- the work's one change of the set has been made
abbrev pub changed : Stage → Bool
changed (walk a p b s0) = false
changed (look t p b s0) = false
changed (lock c i) = false
changed (killed c) = true
changed (killed_both c) = true
changed (last c) = true

-- an Insert adds, a Remove takes out, once: in the first store
abbrev pub Once : Kind → Stage → Stage → Effect → Type 0
Once j p q plus = (j ≡ Insert) × (changed p ≡ false) × (changed q ≡ true)
Once j p q minus = (j ≡ Remove) × (changed p ≡ false) × (changed q ≡ true)
Once j p q none = (changed p ≡ true) × (changed q ≡ true)

pub once : {A B : Tab} {k : ℕ} {p q : Stage} (j : Kind) (b : Put A B k p q) → Fits j p → Once j p q (effect b)
once Lookup (put_data b) f = absurd f.0
once Insert (put_data b) f = (refl, refl, refl)
once Remove (put_data b) f = absurd f.0
once Lookup (put_new g z b) f = absurd f.0
once Insert (put_new g z b) f = (refl, refl, refl)
once Remove (put_new g z b) f = absurd f.0
once Lookup (put_routing b) f = absurd f.0
once Insert (put_routing b) f = absurd f.0
once Remove (put_routing b) f = (refl, refl, refl)
once Lookup (kill_one b) f = absurd f.0
once Insert (kill_one b) f = absurd f.0
once Remove (kill_one b) f = (refl, refl, refl)
once j (pass_one b) f = (refl, refl)
once Lookup (kill_leaf b) f = absurd f.0
once Insert (kill_leaf b) f = absurd f.0
once Remove (kill_leaf b) f = (refl, refl, refl)
once j (cut_leaf b) f = (refl, refl)
once Lookup (kill_under b) f = absurd f.0
once Insert (kill_under b) f = absurd f.0
once Remove (kill_under b) f = (refl, refl, refl)
once j (kill_routing b) f = (refl, refl)
once j (pass_routing b) f = (refl, refl)

-- work ends with Yes where the change is made, with No, Full or withdrawn where it is not; a Lookup's Yes apart
abbrev pub Closed : Kind → Stage → Answer → Type 0
Closed Lookup p r = changed p ≡ false
Closed Insert p (said yes) = changed p ≡ true
Closed Insert p (said going) = ⊥
Closed Insert p (said no) = changed p ≡ false
Closed Insert p (said full) = changed p ≡ false
Closed Insert p done = changed p ≡ false
Closed Remove p (said yes) = changed p ≡ true
Closed Remove p (said going) = ⊥
Closed Remove p (said no) = changed p ≡ false
Closed Remove p (said full) = changed p ≡ false
Closed Remove p done = changed p ≡ false

before_changed : (p : Stage) → Before p → changed p ≡ false
before_changed (walk a p b s0) f = refl
before_changed (look t p b s0) f = refl
before_changed (lock c i) f = refl
before_changed (killed c) f = absurd f
before_changed (killed_both c) f = absurd f
before_changed (last c) f = absurd f

closed_by : (j : Kind) (p : Stage) (r : Answer) → changed p ≡ false → (r ≡ (said full)) ⊎ (r ≡ done) → Closed j p r
closed_by Lookup p r e o = e
closed_by Insert p (said going) e o = ⊎_elim (λ z. absurd (let c : ◌≡◌ {A = ℕ} 0 1 = cc in omega arith)) (λ z. absurd (let c : ◌≡◌ {A = ℕ} 0 1 = cc in omega arith)) o
closed_by Insert p (said yes) e o = ⊎_elim (λ z. absurd (let c : ◌≡◌ {A = ℕ} 0 1 = cc in omega arith)) (λ z. absurd (let c : ◌≡◌ {A = ℕ} 0 1 = cc in omega arith)) o
closed_by Insert p (said no) e o = e
closed_by Insert p (said full) e o = e
closed_by Insert p done e o = e
closed_by Remove p (said going) e o = ⊎_elim (λ z. absurd (let c : ◌≡◌ {A = ℕ} 0 1 = cc in omega arith)) (λ z. absurd (let c : ◌≡◌ {A = ℕ} 0 1 = cc in omega arith)) o
closed_by Remove p (said yes) e o = ⊎_elim (λ z. absurd (let c : ◌≡◌ {A = ℕ} 0 1 = cc in omega arith)) (λ z. absurd (let c : ◌≡◌ {A = ℕ} 0 1 = cc in omega arith)) o
closed_by Remove p (said no) e o = e
closed_by Remove p (said full) e o = e
closed_by Remove p done e o = e

last_closed : (j : Kind) (c : Phase) → Fits j (last c) → Closed j (last c) (said yes)
last_closed Lookup c f = absurd f
last_closed Insert c f = refl
last_closed Remove c f = refl

pub closed : {A : Tab} {k : ℕ} {j : Kind} {p : Stage} {r : Answer} → End A k j p r → Fits j p → Closed j p r
closed (look_yes e s) f = refl
closed (look_no m) f = refl
closed (ins_no e s) f = refl
closed (rem_no m) f = refl
closed (ins_full {j = j} {p = p} {s = s}) f = closed_by j (lock (New p s 0) 2) (said full) refl (inl refl)
closed (last_yes {j = j} {c = c}) f = last_closed j c f
closed (leave {j = j} {p = p} b) f = closed_by j p done (before_changed p b) (inr refl)
