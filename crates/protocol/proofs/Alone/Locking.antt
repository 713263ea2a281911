-- A lone worker is given all the locks of its plan, one a step, where their expectations hold in the table as the walk left it.
-- Assumes nothing.
use mathlib.Core.Path.{◌≡◌, refl, sym, ◌∙◌}
use mathlib.Core.Bool.{Bool, true, false}
use mathlib.Core.List.{List}
use mathlib.Core.Logic.{◌≢◌}
use Prim.Native.Nat.{ℕ, zero, suc, ◌+◌, ◌≤◌, ◌<◌}
use native.Mathlib.Omega.{arith}
use lib.ListN.{length, get_or}
use Rattle.table.specs.Pair.{free, state_f, link_f, state_of, link_of}
use Rattle.table.proofs.ChangeLaws.{lock_apart}
use Rattle.protocol.specs.Says.{Verdict}
use Rattle.protocol.specs.Locks.{state_fits, links_fit}
use Rattle.protocol.specs.declared.Kind.{Kind}
use Rattle.protocol.specs.declared.Phase.{Phase}
use Rattle.protocol.specs.declared.Worker.{Worker}
use Rattle.protocol.specs.declared.Links.{Links}
use Rattle.protocol.specs.declared.Links.TheVariants.{Any, Is, Neither, Both}
use Rattle.protocol.specs.declared.Action.{Action}
use Rattle.protocol.specs.declared.Action.TheVariants.{Visit, Look, Lock, Mark, Link, Take, End, Beyond}
use Rattle.protocol.proofs.HeldLaws.{LocksOnly, locks_only_trans}
use Rattle.protocol.proofs.Alone.Steps.{busy, Comes, go_on}
use Rattle.protocol.proofs.Alone.Doing.{Case, Mid, lock_goes, lock_mid, lock_same}

-- a bound may be larger
pub loosen : {Q : Verdict → List ℕ → Type 0} {us : List ℕ} {w : Worker} (a b : ℕ) → a ≤ b → Comes Q us w a → Comes Q us w b
loosen a b h c = let g = c.within in record { steps = c.steps; within = omega arith; answer = c.answer; after = c.after; run = c.run; told = c.told }

-- the action is a lock whose expectation holds
abbrev pub Wanted : List ℕ → Action → Type 0
Wanted ws (Visit at prev before side up) = ⊥
Wanted ws (Look this prev side before up) = ⊥
Wanted ws (Lock s l write state links) = (state_of ws s ≢ free) × (state_fits state (state_of ws s) ≡ true) × (links_fit ws s links ≡ true)
Wanted ws (Mark slot to) = ⊥
Wanted ws (Link slot side to) = ⊥
Wanted ws (Take prev side) = ⊥
Wanted ws End = ⊥
Wanted ws Beyond = ⊥

-- locks leave states and links
module _ {ws us : List ℕ} (o : LocksOnly ws us) where
  pub state_stays : (s : ℕ) → state_of us s ≡ state_of ws s
  state_stays s = o.fields state_f s (λ l e. (lock_apart l).0 (sym e))

  pub link_stays : (s : ℕ) (d : Bool) → link_of us s d ≡ link_of ws s d
  link_stays s d = o.fields (link_f d) s (λ l e. (lock_apart l).1 d (sym e))

  links_stay : (s : ℕ) (links : Links) → links_fit us s links ≡ links_fit ws s links
  unfolding links_fit
  links_stay s Any = refl
  links_stay s (Is side child) = rw (link_stays s side)
  links_stay s Neither = rw (link_stays s true, link_stays s false)
  links_stay s Both = rw (link_stays s true, link_stays s false)

-- one lock
one_lock : {kind : Kind} {key n : ℕ} {ph : ℕ → Phase} {acts : List Action} (c : Case kind key n ph acts) {Q : Verdict → List ℕ → Type 0} {ws us : List ℕ} {i b : ℕ}
    (a : Action) → get_or acts i Beyond ≡ a → Wanted ws a → i < length acts → Mid acts n i us → LocksOnly ws us
    → ((vs : List ℕ) → Mid acts n (suc i) vs → LocksOnly ws vs → Comes Q vs (busy kind key (ph (suc i))) b) → Comes Q us (busy kind key (ph i)) (suc b)
one_lock c (Visit at prev before side up) e w h m o k = absurd w
one_lock c (Look this prev side before up) e w h m o k = absurd w
one_lock c {ws = ws} {us = us} (Lock s l write state links) e w h m o k =
    let f : state_of us s ≢ free = rw (state_stays o s) w.0 in
    let g : state_fits state (state_of us s) ≡ true = rw (state_stays o s) w.1 in
    let p : links_fit us s links ≡ true = links_stay o s links ∙ w.2 in
    go_on (lock_goes c m h e f g p) (k _ (lock_mid c m h e f g p) (locks_only_trans o (lock_same c m h e f g p)))
one_lock c (Mark slot to) e w h m o k = absurd w
one_lock c (Link slot side to) e w h m o k = absurd w
one_lock c (Take prev side) e w h m o k = absurd w
one_lock c End e w h m o k = absurd w
one_lock c Beyond e w h m o k = absurd w

-- ALL OF THEM: the first k actions of the plan are locks whose expectations hold in ws
pub lock_all : {kind : Kind} {key n : ℕ} {ph : ℕ → Phase} {acts : List Action} (c : Case kind key n ph acts) {Q : Verdict → List ℕ → Type 0} {ws : List ℕ} {b : ℕ}
    (k : ℕ) → k ≤ length acts → ((i : ℕ) → i < k → Wanted ws (get_or acts i Beyond))
    → ((vs : List ℕ) → Mid acts n k vs → LocksOnly ws vs → Comes Q vs (busy kind key (ph k)) b)
    → (j i : ℕ) (us : List ℕ) → j + i ≡ k → Mid acts n i us → LocksOnly ws us → Comes Q us (busy kind key (ph i)) (j + b)
lock_all {kind} {key} {ph = ph} c {Q} {b = b} k h wants rest zero i us e m o =
    let q : i ≡ k = omega arith in
    loosen b (0 + b) (omega arith) (rw q (rest us (rw q at m) o))
lock_all {acts = acts} c {b = b} k h wants rest (suc j) i us e m o =
    loosen (suc (j + b)) (suc j + b) (omega arith)
    (one_lock c (get_or acts i Beyond) refl (wants i (omega arith)) (omega arith) m o
    (λ vs m' o'. lock_all c k h wants rest j (suc i) vs (omega arith) m' o'))
