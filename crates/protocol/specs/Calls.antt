-- Start and withdraw. Their refusals are one number, judged in document 01's order; 0: none.
-- Assumes nothing.
use Rattle.std.specs.Prelude.{Bool, true, false, cond, ◌||◌, List, ℕ, zero, suc, ◌+◌, leb, eqb}
use Rattle.refusal.specs.Said.{gives}
use Rattle.moment.specs.Key.{legal_of}
use Rattle.table.specs.Pair.{busy_of, set_busy}
use Rattle.table.specs.Rules.{table_fine}
use Rattle.protocol.specs.Plan.{action_at, done_of, at_root, is_store}
use Rattle.protocol.specs.Record.{record_fine}
use Rattle.protocol.specs.Locks.{all_held, released}
use Rattle.protocol.specs.Step.{Call, refused, leave, idle_worker}
use Rattle.protocol.specs.declared.Kind.{Kind}
use Rattle.protocol.specs.declared.Work.{Work}
use Rattle.protocol.specs.declared.Work.TheVariants.{Idle, Busy}
use Rattle.protocol.specs.declared.Phase.{Phase}
use Rattle.protocol.specs.declared.Worker.{Worker}

-- Start: 1, 2, 3, 4

abbrev pub idle : Work → Bool
idle Idle = true
idle (Busy kind) = false

unfoldable pub judge_start : List ℕ → Work → ℕ → ℕ
judge_start ws work key =
    cond (table_fine ws) (cond (idle work) (cond (legal_of key) (cond (leb 16 (busy_of ws)) 4 0) 3) 2) 1

-- it takes a seat and begins at the root
unfoldable pub seated : List ℕ → List ℕ
seated ws = set_busy ws (busy_of ws + 1)

unfoldable pub start_of : List ℕ → Worker → Kind → ℕ → Call (Unit {0})
start_of ws w kind key =
    cond (eqb (judge_start ws w.work key) 0)
    (record { says = gives tt; worker = record { work = Busy kind; key = key; phase = at_root }; words = seated ws })
    (refused (judge_start ws w.work key) w ws)

-- Withdraw: 1, 2, 6, 7

-- has one of the first n actions stored?
unfoldable pub stored : Phase → ℕ → Bool
stored p zero = false
stored p (suc n) = stored p n || is_store (action_at p n)

unfoldable pub judge_busy : List ℕ → Work → ℕ → Phase → ℕ
judge_busy ws Idle key p = 2
judge_busy ws (Busy kind) key p =
    cond (record_fine ws kind key p) (cond (all_held ws p (done_of p)) (cond (stored p (done_of p)) 7 0) 6) 6

unfoldable pub judge_withdraw : List ℕ → Work → ℕ → Phase → ℕ
judge_withdraw ws work key p = cond (table_fine ws) (judge_busy ws work key p) 1

-- it gives up locks and seat
unfoldable pub withdraw_of : List ℕ → Worker → Call (Unit {0})
withdraw_of ws w =
    cond (eqb (judge_withdraw ws w.work w.key w.phase) 0)
    (record { says = gives tt; worker = idle_worker; words = leave (released ws w.phase (done_of w.phase)) })
    (refused (judge_withdraw ws w.work w.key w.phase) w ws)
