-- What `_` leaves of a `match`, by the places in the enum; what a look comes to; and the actions of a plan that neither walks nor looks.
-- Assumes nothing.
use mathlib.Core.Path.{◌≡◌, refl, sym, ap}
use mathlib.Core.Bool.{Bool, true, false, cond}
use mathlib.Core.List.{List, [], ◌∷◌}
use Prim.Native.Nat.{ℕ}
use types.Run.{OneOf, miss}
use denote.Enum.Declared.{tag_of}
use Rattle.protocol.specs.contracts.Phase.{the_type as phases}
use Rattle.protocol.specs.Plan.{plan, action_at}
use Rattle.protocol.specs.Record.{roles, record_fine}
use Rattle.protocol.specs.declared.Kind.{Kind}
use Rattle.protocol.specs.declared.Kind.TheVariants.{Lookup}
use Rattle.protocol.specs.declared.Phase.{Phase}
use Rattle.protocol.specs.declared.Phase.TheVariants.{Walk, OnRouting, New, Two, One, Leaf, UnderData, UnderRouting}
use Rattle.protocol.specs.declared.Action.{Action}
use Rattle.protocol.specs.declared.Action.TheVariants.{Visit, Look, Lock, Mark, Link, Take, End, Beyond}
use Rattle.protocol.specs.declared.Outcome.{Outcome}
use Rattle.protocol.proofs.Together.Wishes.{All}
use Rattle.plan.proofs.Actions.{all_at}
use Rattle.locks.specs.Taking.{after}
use Rattle.std.specs.Prelude.{Result, Ok, Err}
use Rattle.refusal.specs.declared.Refusal.{Refusal}
use Rattle.refusal.specs.declared.Refusal.TheVariants.{Damaged}
use Rattle.acting.specs.Moves.{moved_of, plan_move, busy_move}
use Rattle.acting.specs.declared.Moved.{Moved}

pub move_other : (ws : List ℕ) (kind : Kind) (key : ℕ) (p : Phase) → OneOf (1 ∷ 2 ∷ 3 ∷ 4 ∷ 6 ∷ 7 ∷ []) (tag_of phases p) → plan_move ws kind key p ≡ busy_move ws kind key p
unfolding busy_move
move_other ws kind key (Walk at prev before side up) t = absurd (miss (1 ∷ 2 ∷ 3 ∷ 4 ∷ 6 ∷ 7 ∷ []) 0 tt t)
move_other ws kind key (OnRouting this done) t = refl
move_other ws kind key (New prev side done) t = refl
move_other ws kind key (Two this done) t = refl
move_other ws kind key (One this prev side child toward done) t = refl
move_other ws kind key (Leaf this prev side before up) t = absurd (miss (1 ∷ 2 ∷ 3 ∷ 4 ∷ 6 ∷ 7 ∷ []) 5 tt t)
move_other ws kind key (UnderData this prev side done) t = refl
move_other ws kind key (UnderRouting this prev side before up other done) t = refl

-- The actions of a plan that neither walks nor looks

abbrev pub Acts : Action → Type 0
Acts (Visit at prev before side up) = ⊥
Acts (Look this prev side before up) = ⊥
Acts (Lock slot which write state links) = Unit {0}
Acts (Mark slot to) = Unit {0}
Acts (Link slot side to) = Unit {0}
Acts (Take prev side) = Unit {0}
Acts End = Unit {0}
Acts Beyond = Unit {0}

abbrev pub Planned : Phase → Type 0
Planned (Walk at prev before side up) = ⊥
Planned (OnRouting this done) = Unit {0}
Planned (New prev side done) = Unit {0}
Planned (Two this done) = Unit {0}
Planned (One this prev side child toward done) = Unit {0}
Planned (Leaf this prev side before up) = ⊥
Planned (UnderData this prev side done) = Unit {0}
Planned (UnderRouting this prev side before up other done) = Unit {0}

all_of : (p : Phase) → Planned p → All Acts (plan p)
unfolding plan
all_of (Walk at prev before side up) t = absurd t
all_of (OnRouting this done) t = (tt, (tt, (tt, tt)))
all_of (New prev side done) t = (tt, (tt, (tt, (tt, tt))))
all_of (Two this done) t = (tt, (tt, (tt, tt)))
all_of (One this prev side child toward done) t = (tt, (tt, (tt, (tt, (tt, (tt, tt))))))
all_of (Leaf this prev side before up) t = absurd t
all_of (UnderData this prev side done) t = (tt, (tt, (tt, (tt, (tt, (tt, tt))))))
all_of (UnderRouting this prev side before up other done) t = (tt, (tt, (tt, (tt, (tt, (tt, (tt, (tt, (tt, tt)))))))))

pub acts_at : (p : Phase) (i : ℕ) → Planned p → Acts (action_at p i)
unfolding action_at
acts_at p i t = all_at Acts tt (plan p) (all_of p t) i

-- the record's rules do not look at the work or the sides of a walk
pub any_work : (ws : List ℕ) (kind : Kind) (key at prev before : ℕ) (side up : Bool)
    → record_fine ws Lookup key (Walk at prev before true true) ≡ record_fine ws kind key (Walk at prev before side up)
unfolding record_fine roles
any_work ws kind key at prev before side up = refl

-- what a look at a slot comes to, handed on as a move, or as the refusal
abbrev pub handed : Result Outcome Refusal → Result Moved Refusal
handed (Ok o) = Ok (moved_of o)
handed (Err e) = Err e

pub looks : (b : Bool) (o : Outcome) (r : Result Outcome Refusal) (ws : List ℕ) → cond b (Ok o) (Err Damaged) ≡ r
    → after (handed r) ws ≡ cond b (after (Ok (moved_of o)) ws) (after (Err Damaged) ws)
looks true o r ws h = sym (ap (λ x. after (handed x) ws) h)
looks false o r ws h = sym (ap (λ x. after (handed x) ws) h)
