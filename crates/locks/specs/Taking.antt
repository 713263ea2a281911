-- A lock that is asked for, and locks given up, before it is settled what becomes of the phase: `lock_step` and `give_up` without
-- their phases. `acting/proofs/MoveLaws.antt` has that, settled, a step is the protocol's.
-- Assumes nothing.
use Rattle.std.specs.Prelude.{◌≡◌, Bool, true, cond, List, ◌≢◌, ℕ, ◌+◌, Option, Some, Result, Ok, Err, IfSome}
use Rattle.table.specs.Pair.{lock_of, set_lock}
use Rattle.table.specs.Rules.{pair_fine}
use Rattle.table.specs.declared.Which.{Which}
use Rattle.protocol.specs.Locks.{weight, crowded, granted, all_held, released}
use Rattle.protocol.specs.declared.Phase.{Phase}
use Rattle.protocol.specs.declared.Links.{Links}
use Rattle.refusal.specs.declared.Refusal.{Refusal}
use Rattle.refusal.specs.declared.Refusal.TheVariants.{Readers}
use Rattle.locks.specs.declared.Acted.{Acted}
use Rattle.locks.specs.declared.Acted.TheVariants.{Done, Denied}

-- what is said, and the words after it
pub record After (A : Type 0) : Type 0 where
  pub said : A
  pub words : List ℕ

abbrev pub after : {A : Type 0} → A → List ℕ → After A
after a ws = record { said = a; words = ws }

-- a lock that is asked for
unfoldable pub take_lock : List ℕ → ℕ → Which → Bool → ℕ → Links → After (Result Acted Refusal)
take_lock ws slot which write state links =
    cond (granted ws slot which write state links)
    (cond (crowded write (lock_of ws slot which))
    (after (Err Readers) ws)
    (after (Ok Done) (set_lock ws slot which (lock_of ws slot which + weight write))))
    (after (Ok Denied) ws)

-- what a quick taking promises: where it says what the lock came to, the pair was fine and it did; only one that is done
-- changes a word
abbrev pub TakenBy : List ℕ → ℕ → Which → Bool → ℕ → Links → Option Acted → List ℕ → Type 0
TakenBy ws slot which write state links r ws' =
    IfSome r (λ a. (pair_fine ws slot ≡ true) × (take_lock ws slot which write state links ≡ after (Ok a) ws')) × (r ≢ Some Done → ws' ≡ ws)

-- the locks of the first n actions, given up where all are held
unfoldable pub given_up : List ℕ → Phase → ℕ → List ℕ
given_up ws p n = cond (all_held ws p n) (released ws p n) ws
