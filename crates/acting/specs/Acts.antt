-- What an action of the plan comes to by itself, whatever the phase. The walk's two actions are no part of it.
-- Assumes nothing.
use Rattle.std.specs.Prelude.{◌≡◌, Bool, true, cond, List, ◌≢◌, ℕ, eqb, Option, Some, None, Result, Ok, Err, IfSome}
use Rattle.refusal.specs.declared.Refusal.{Refusal}
use Rattle.refusal.specs.declared.Refusal.TheVariants.{Damaged}
use Rattle.table.specs.Pair.{set_state, set_link, zero_pair}
use Rattle.protocol.specs.Step.{reads_fine}
use Rattle.protocol.specs.Stores.{lowest_fit, taken}
use Rattle.protocol.specs.declared.Action.{Action}
use Rattle.protocol.specs.declared.Action.TheVariants.{Visit, Look, Lock, Mark, Link, Take, End, Beyond}
use Rattle.protocol.specs.declared.Answer.TheVariants.{Yes, Full}
use Rattle.locks.specs.Taking.{After, after, take_lock}
use Rattle.locks.specs.declared.Acted.{Acted}
use Rattle.locks.specs.declared.Acted.TheVariants.{Done, Finished}

-- the lowest free slot f is taken, where there is one and it is zero
unfoldable pub takes : List ℕ → ℕ → ℕ → Bool → ℕ → After (Result Acted Refusal)
takes ws key prev side f =
    cond (eqb f 0) (after (Ok (Finished Full)) ws)
    (cond (zero_pair ws f) (after (Ok Done) (set_link (taken ws f key) prev side f)) (after (Err Damaged) ws))

-- what an action comes to by itself
unfoldable pub act_on : List ℕ → ℕ → Action → After (Result Acted Refusal)
act_on ws key (Visit at prev before side up) = after (Err Damaged) ws
act_on ws key (Look this prev side before up) = after (Err Damaged) ws
act_on ws key (Lock slot which write state links) = take_lock ws slot which write state links
act_on ws key (Mark slot to) = after (Ok Done) (set_state ws slot to)
act_on ws key (Link slot side to) = after (Ok Done) (set_link ws slot side to)
act_on ws key (Take prev side) = takes ws key prev side (lowest_fit ws)
act_on ws key End = after (Ok (Finished Yes)) ws
act_on ws key Beyond = after (Err Damaged) ws

-- what a quick action promises: where it says what it came to, its pair was fine and it did; only one that is done changes a
-- word; and the end of a plan is left to the caller
abbrev pub DoneBy : List ℕ → ℕ → Action → Option Acted → List ℕ → Type 0
DoneBy ws key a r ws' =
    IfSome r (λ x. (reads_fine ws a ≡ true) × (act_on ws key a ≡ after (Ok x) ws')) × (r ≢ Some Done → ws' ≡ ws) × (a ≡ End → r ≡ None)

-- of a new frame's slot alone
abbrev pub FrameBy : List ℕ → ℕ → ℕ → Bool → Option Acted → List ℕ → Type 0
FrameBy ws key prev side r ws' =
    IfSome r (λ x. takes ws key prev side (lowest_fit ws) ≡ after (Ok x) ws') × (r ≢ Some Done → ws' ≡ ws)
