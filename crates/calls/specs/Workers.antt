-- A call on a lent record: 1, then 6 for words that are no record, then the call on the record that they are.
-- Assumes nothing.
use Rattle.std.specs.Prelude.{◌≡◌, true, cond, not, ◌&&◌, List, ℕ, leb, eqb, Result, Ok, Err, None, get_or}
use Rattle.table.specs.Pair.{busy_of}
use Rattle.refusal.specs.Said.{Said}
use Rattle.table.specs.Rules.{table_fine}
use Rattle.moment.specs.Key.{legal_of}
use Rattle.worker.specs.Moving.{walk_fine, walk_to}
use Rattle.records.specs.declared.Flat.{Flat}
use Rattle.protocol.specs.Step.{Call, idle_worker}
use Rattle.protocol.specs.declared.Kind.{Kind}
use Rattle.protocol.specs.declared.Kind.TheVariants.{Lookup, Insert, Remove}
use Rattle.protocol.specs.declared.Work.{Work}
use Rattle.protocol.specs.declared.Work.TheVariants.{Idle, Busy}
use Rattle.protocol.specs.declared.Phase.{Phase}
use Rattle.protocol.specs.declared.Worker.{Worker}
use Rattle.protocol.specs.declared.Action.{Action}
use Rattle.protocol.specs.declared.Action.TheVariants.{Beyond}
use Rattle.plan.specs.Due.{due_of}
use Rattle.records.specs.Records.{words_of, is_record, put_record, is_idle, is_walk, flat_at, count_on}
use Rattle.acting.specs.declared.Moved.{Moved}
use Rattle.acting.specs.declared.Moved.TheVariants.{On, To, Over}
use Rattle.refusal.specs.declared.Refusal.{Refusal}

-- the number where the words are no record
unfoldable pub unread_number : List ℕ → ℕ
unread_number ws = cond (table_fine ws) 6 1

-- what the call answers, and what it leaves in the record's words and in the table's; `c` is the call on the record
unfoldable pub call_number : {A : Type 0} → (Said A → ℕ) → List ℕ → List ℕ → Call A → ℕ
call_number f ws s c = cond (is_record s) (f c.says) (unread_number ws)

unfoldable pub call_record : {A : Type 0} → List ℕ → Call A → List ℕ
call_record s c = cond (is_record s) (words_of c.worker) s

unfoldable pub call_words : {A : Type 0} → List ℕ → List ℕ → Call A → List ℕ
call_words ws s c = cond (is_record s) c.words ws

-- the three together: the number, the record's words and the table's words after the call
abbrev pub Comes : {A : Type 0} → (Said A → ℕ) → List ℕ → List ℕ → Call A → ℕ → List ℕ → List ℕ → Type 0
Comes f ws s c number record_words table-words =
    (number ≡ call_number f ws s c) × (record_words ≡ call_record s c) × (table-words ≡ call_words ws s c)

-- A step, put into the record's words as it is told: one count, another record, or nothing. `proofs/MovedCalls.antt` has that
-- these are the words of the record after the step.
unfoldable pub put_moved : List ℕ → Work → ℕ → Result Moved Refusal → List ℕ
put_moved s work key (Ok On) = count_on s
put_moved s work key (Ok (To p)) = put_record s (record { work = work; key = key; phase = p })
put_moved s work key (Ok (Over a)) = put_record s idle_worker
put_moved s work key (Err e) = s

-- the kind of work that a busy record's first word says
unfoldable pub kind_at : ℕ → Kind
kind_at n = cond (eqb n 1) Lookup (cond (eqb n 2) Insert Remove)

-- the action that is due in a record, where its roles are fine and its phase has a plan
abbrev pub due_work : ℕ → Work → Phase → Action
due_work n Idle p = Beyond
due_work n (Busy kind) p = due_of n kind p

unfoldable pub due_in : ℕ → Worker → Action
due_in n w = due_work n w.work w.phase

-- the words are a busy walk's, and rules 1 and 6 let it step
abbrev pub WalkFine : List ℕ → List ℕ → Type 0
WalkFine ws s = (is_walk s ≡ true) × (walk_fine ws (get_or s 1 0) (get_or s 3 0) (get_or s 4 0) (get_or s 6 0) ≡ true)

-- and it ends where it stands
abbrev pub WalkEnds : List ℕ → List ℕ → Type 0
WalkEnds ws s = WalkFine ws s × (walk_to ws (get_or s 1 0) (get_or s 3 0) ≡ None)

-- the words by name are those of a record
abbrev pub Named : List ℕ → Flat → Type 0
Named s f = (is_record s ≡ true) × (f ≡ flat_at s)

-- rules 1 and 6 are kept, and someone is busy
abbrev pub Ruled : List ℕ → ℕ → Type 0
Ruled ws key = ((table_fine ws && not (eqb (busy_of ws) 0)) ≡ true) × (legal_of key ≡ true)

-- what is told at once before a start: an idle record's zeros, no refusal 1 and a free seat
abbrev pub OpensAtOnce : List ℕ → List ℕ → Type 0
OpensAtOnce ws s = (is_idle s ≡ true) × ((table_fine ws && not (leb 16 (busy_of ws))) ≡ true)
