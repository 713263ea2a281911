-- A new frame's slot: which is fit to be taken, and the store that takes it.
-- Assumes nothing.
use Rattle.std.specs.Prelude.{Bool, cond, List, ℕ, eqb}
use Rattle.table.specs.Free.{lowest_slot, is_free}
use Rattle.table.specs.Pair.{as_data, set_key, set_state, set_link, zero_pair}
use Rattle.protocol.specs.Locks.{Did, did, stopped, give_up}
use Rattle.protocol.specs.declared.Phase.{Phase}
use Rattle.protocol.specs.declared.Answer.TheVariants.{Full}
use Rattle.protocol.specs.declared.Outcome.TheVariants.{Goes, Ends}
use Rattle.refusal.specs.declared.Refusal.TheVariants.{Damaged}

-- a slot is fit to be taken when it is free
unfoldable pub fit : List ℕ → ℕ → Bool
fit ws i = is_free ws i

-- the lowest that is; 0: none
unfoldable pub lowest_fit : List ℕ → ℕ
lowest_fit ws = lowest_slot ws (fit ws)

-- the slot gets key and state data
unfoldable pub taken : List ℕ → ℕ → ℕ → List ℕ
taken ws i key = set_state (set_key ws i key) i as_data

-- and is linked. None fit: Full. The slot taken must be zero
unfoldable pub take_step : List ℕ → ℕ → Phase → ℕ → Phase → ℕ → Bool → Did
take_step ws key p n next prev side =
    cond (eqb (lowest_fit ws) 0)
    (give_up ws p n (Ends Full))
    (cond (zero_pair ws (lowest_fit ws))
    (did (Goes next) (set_link (taken ws (lowest_fit ws) key) prev side (lowest_fit ws)))
    (stopped Damaged ws))
