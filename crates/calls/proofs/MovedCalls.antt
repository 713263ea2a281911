-- A step that is told, put into the record's words: these are the words of the record after the step.
-- Assumes nothing.
use mathlib.Core.Path.{◌≡◌, refl, sym, ap, ◌∙◌}
use mathlib.Core.Bool.{true}
use mathlib.Core.List.{List}
use Prim.Native.Nat.{ℕ}
use Rattle.protocol.specs.Step.{step_of}
use Rattle.records.specs.Records.{words_of, worker_of, is_record}
use Rattle.records.proofs.Canonical.{record_words, put_fits}
use Rattle.records.proofs.Counts.{counts_on}
use Rattle.acting.specs.declared.Moved.{Moved}
use Rattle.acting.specs.declared.Moved.TheVariants.{On, To, Over}
use Rattle.std.specs.Prelude.{Result, Ok, Err}
use Rattle.refusal.specs.declared.Refusal.{Refusal}
use Rattle.worker.specs.Moving.{left_by, move_says, move_worker, move_of}
use Rattle.worker.proofs.MovingLaws.{told_as, on_done}
use Rattle.calls.specs.Numbers.{verdict_number}
use Rattle.calls.specs.Workers.{call_number, call_record, call_words, put_moved}

moved_words : (ws s : List ℕ) (m : Result Moved Refusal) → is_record s ≡ true → m ≡ (move_of ws (worker_of s)).said → put_moved s (worker_of s).work (worker_of s).key m ≡ words_of (move_worker (worker_of s) m)
unfolding put_moved
moved_words ws s (Ok On) r e = counts_on s r (on_done ws (worker_of s) e)
moved_words ws s (Ok (To p)) r e = put_fits s (move_worker (worker_of s) (Ok (To p))) r
moved_words ws s (Ok (Over a)) r e = put_fits s (move_worker (worker_of s) (Ok (Over a))) r
moved_words ws s (Err f) r e = sym (record_words s r)

-- the words are a record: the number, the record's words and the table's are those of the step
pub moved_call : (ws s : List ℕ) (m : Result Moved Refusal) {n : ℕ} {s' ws' : List ℕ} → is_record s ≡ true → m ≡ (move_of ws (worker_of s)).said
    → n ≡ verdict_number (move_says m) → s' ≡ put_moved s (worker_of s).work (worker_of s).key m → ws' ≡ left_by m (move_of ws (worker_of s)).words
    → let c = step_of ws (worker_of s) in (n ≡ call_number verdict_number ws s c) × (s' ≡ call_record s c) × (ws' ≡ call_words ws s c)
unfolding call_number call_record call_words
moved_call ws s m r e n p q =
    let t = told_as ws _ (worker_of s) m m e refl q in
    (rw r (n ∙ ap verdict_number t.0), rw r (p ∙ moved_words ws s m r e ∙ ap words_of t.1), rw r t.2)
