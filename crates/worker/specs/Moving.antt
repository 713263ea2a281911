-- A step that is reported and not put into a record: what it says, the record after it, and the words where the work is over.
-- `proofs/MovingLaws.antt` proves that this is the protocol's step.
-- Assumes nothing.
use Rattle.std.specs.Prelude.{Bool, true, cond, ◌&&◌, List, ℕ, ltb, eqb, Result, Ok, Err, Option, Some, None}
use Rattle.refusal.specs.declared.Refusal.{Refusal}
use Rattle.refusal.specs.Said.{Said, gives, refuses, number}
use Rattle.table.specs.Pair.{key_of, link_of}
use Rattle.table.specs.Rules.{pair_fine, table_fine}
use Rattle.protocol.specs.Record.{record_fine}
use Rattle.protocol.specs.Says.{Verdict, going, answer_says}
use Rattle.protocol.specs.Plan.{next_of}
use Rattle.protocol.specs.Step.{idle_worker, leave}
use Rattle.protocol.specs.declared.Kind.TheVariants.{Lookup}
use Rattle.protocol.specs.declared.Phase.TheVariants.{Walk}
use Rattle.protocol.specs.declared.Worker.{Worker}
use Rattle.acting.specs.Moves.{Move, step_move}
use Rattle.acting.specs.declared.Moved.{Moved}
use Rattle.acting.specs.declared.Moved.TheVariants.{On, To, Over}

-- the seat is given up where the work is over
unfoldable pub left_by : Result Moved Refusal → List ℕ → List ℕ
left_by (Ok On) ws = ws
left_by (Ok (To p)) ws = ws
left_by (Ok (Over a)) ws = leave ws
left_by (Err e) ws = ws

abbrev pub move_says : Result Moved Refusal → Said Verdict
move_says (Ok On) = gives going
move_says (Ok (To p)) = gives going
move_says (Ok (Over a)) = answer_says a
move_says (Err e) = refuses (number e)

abbrev pub move_worker : Worker → Result Moved Refusal → Worker
move_worker w (Ok On) = record { work = w.work; key = w.key; phase = next_of w.phase }
move_worker w (Ok (To p)) = record { work = w.work; key = w.key; phase = p }
move_worker w (Ok (Over a)) = idle_worker
move_worker w (Err e) = w

-- of a record
abbrev pub move_of : List ℕ → Worker → Move
move_of ws w = step_move ws w.work w.key w.phase

-- A walk by itself, whatever its work and the sides: rules 1 and 6 let it step; and the slot that it goes on to: none where it ends,
-- on the slot of the key or at nothing
unfoldable pub walk_fine : List ℕ → ℕ → ℕ → ℕ → ℕ → Bool
walk_fine ws key at prev before =
    table_fine ws && record_fine ws Lookup key (Walk at prev before true true) && pair_fine ws at

unfoldable pub walk_to : List ℕ → ℕ → ℕ → Option ℕ
walk_to ws key at =
    cond (eqb (key_of ws at) key) None
    (cond (eqb (link_of ws at (ltb key (key_of ws at))) 0) None (Some (link_of ws at (ltb key (key_of ws at)))))
