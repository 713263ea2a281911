-- Inputs that meet the premises of the theorems: computed.
-- Assumes nothing.
use Rattle.std.specs.Prelude.{◌≡◌, Bool, true, false, List, [], ◌∷◌, ℕ, ◌+◌}
use Rattle.refusal.specs.Said.{Said, gives, refuses}
use Rattle.table.specs.Pair.{zero_pair}
use Rattle.table.specs.Rules.{table_fine, pair_fine}
use Rattle.protocol.specs.declared.Kind.{Kind}
use Rattle.protocol.specs.declared.Kind.TheVariants.{Lookup, Insert, Remove}
use Rattle.protocol.specs.declared.Work.TheVariants.{Busy}
use Rattle.protocol.specs.declared.Phase.{Phase}
use Rattle.protocol.specs.declared.Phase.TheVariants.{Walk, New}
use Rattle.protocol.specs.declared.Worker.{Worker}
use Rattle.protocol.specs.Stores.{lowest_fit}
use Rattle.protocol.specs.Step.{idle_worker, step_of}
use Rattle.protocol.specs.Calls.{start_of, withdraw_of}
use Rattle.tree.specs.Judge.{sound_of}
use Rattle.tree.specs.Answers.{check_says, list_says, first_says, sweep_says}
use Rattle.cases.specs.Runs.{told}
use Rattle.cases.specs.LightTable.{A, B, C, D, filled, without_b, without_a}

abbrev pub bit : Bool → ℕ
bit true = 1
bit false = 0

-- a value plus 1000, or a refusal's number
abbrev pub num : Said ℕ → ℕ
num (gives n) = 1000 + n
num (refuses n) = n

abbrev pub unit : Said (Unit {0}) → ℕ
unit (gives u) = 0
unit (refuses n) = n

abbrev pub chk : Said Bool → ℕ
chk (gives true) = 1001
chk (gives false) = 1000
chk (refuses n) = n

abbrev pub busy : Kind → ℕ → Phase → Worker
busy kind key p = record { work = Busy kind; key = key; phase = p }

-- the root alone, a state lock with 16 readers, its left edge written, one busy
abbrev pub crowd : List ℕ
crowd = 0xFFFFFFFFFFFFFFFF ∷ 0x4000020040080000 ∷ 0 ∷ 0 ∷ []

-- the same, one more reader than may be
abbrev pub over : List ℕ
over = 0xFFFFFFFFFFFFFFFF ∷ 0x4000022040080000 ∷ 0 ∷ 0 ∷ []

-- one busy, on the filled table
abbrev pub one_busy : List ℕ
one_busy = 0xFFFFFFFFFFFFFFFF ∷ 0x4010000000080000 ∷ B ∷ 0x40200C0000000000 ∷ A ∷ 0x4000000000000000 ∷ C ∷ 0x4000000000000000 ∷ []

-- 16 busy
abbrev pub sixteen : List ℕ
sixteen = 0xFFFFFFFFFFFFFFFF ∷ 0x4000000000800000 ∷ 0 ∷ 0 ∷ []

-- a data slot that is not reached
abbrev pub lost : List ℕ
lost = 0xFFFFFFFFFFFFFFFF ∷ 0x4000000000000000 ∷ B ∷ 0x4000000000000000 ∷ []

-- one busy; both locks of a new frame's insert are held and slot 1 is free, zero or not
abbrev pub ready : ℕ → List ℕ
ready k = 0xFFFFFFFFFFFFFFFF ∷ 0x4000002040080000 ∷ k ∷ 0 ∷ []

abbrev pub came : List ℕ
came =
    bit (table_fine filled) ∷ bit (sound_of filled) ∷ chk (check_says filled) ∷ chk (check_says without_b) ∷ chk (check_says without_a)
    ∷ chk (check_says lost) ∷ chk (check_says [])
    ∷ num (list_says filled 0 0xFFFFFFFFFFFFFFFF 3) ∷ num (list_says filled A B 2) ∷ num (list_says filled C A 0)
    ∷ num (list_says filled A B 1) ∷ num (list_says lost A B 1) ∷ num (list_says (7 ∷ []) A B 1)
    ∷ num (first_says filled 0) ∷ num (first_says filled (C + 1)) ∷ num (first_says lost 0) ∷ num (first_says [] 0)
    ∷ unit (sweep_says without_a) ∷ unit (sweep_says one_busy) ∷ unit (sweep_says lost) ∷ unit (sweep_says [])
    ∷ told (step_of [] idle_worker).says ∷ told (step_of filled idle_worker).says ∷ told (step_of filled (busy Lookup A (Walk 0 0 0 true true))).says
    ∷ told (step_of one_busy (busy Lookup A (Walk 0 0 0 true true))).says ∷ told (step_of one_busy (busy Lookup A (Walk 2 1 0 true true))).says
    ∷ told (step_of one_busy (busy Remove D (Walk 3 1 0 false true))).says
    ∷ told (step_of crowd (busy Insert A (New 0 true 1))).says ∷ told (step_of over (busy Insert A (New 0 true 1))).says
    ∷ told (step_of (ready 0) (busy Insert A (New 0 true 2))).says ∷ told (step_of (ready 5) (busy Insert A (New 0 true 2))).says
    ∷ unit (start_of [] idle_worker Insert A).says ∷ unit (start_of filled (busy Lookup A (Walk 0 0 0 true true)) Insert 0).says
    ∷ unit (start_of sixteen idle_worker Insert 0).says ∷ unit (start_of sixteen idle_worker Insert A).says ∷ unit (start_of filled idle_worker Insert A).says
    ∷ unit (withdraw_of (ready 0) (busy Insert A (New 0 true 2))).says ∷ unit (withdraw_of (ready 0) (busy Insert A (New 0 true 3))).says
    ∷ unit (withdraw_of (ready 0) (busy Insert A (New 0 false 2))).says ∷ unit (withdraw_of (ready 0) idle_worker).says
    ∷ bit (pair_fine (ready 0) 0) ∷ lowest_fit (ready 0) ∷ bit (zero_pair (ready 0) 1) ∷ lowest_fit filled
    ∷ []

abbrev pub expected : List ℕ
expected =
    1 ∷ 1 ∷ 1001 ∷ 1001 ∷ 1001
    ∷ 1000 ∷ 1
    ∷ 1003 ∷ 1002 ∷ 1000
    ∷ 11 ∷ 6 ∷ 1
    ∷ (1000 + A) ∷ 13 ∷ 6 ∷ 1
    ∷ 0 ∷ 8 ∷ 6 ∷ 1
    ∷ 101 ∷ 102 ∷ 106
    ∷ 0 ∷ 1
    ∷ 2
    ∷ 109 ∷ 101
    ∷ 0 ∷ 106
    ∷ 1 ∷ 2
    ∷ 3 ∷ 4 ∷ 0
    ∷ 0 ∷ 7
    ∷ 6 ∷ 2
    ∷ 1 ∷ 1 ∷ 1 ∷ 0
    ∷ []

abbrev pub Witness : Type 0
Witness = came ≡ expected
