-- What a call that makes steps hands back. By value: the answer, the record, the steps made and the words are those of the definition.
-- On a lent record `Comes` of calls says it of the last call; how many steps were made, `steps_made`.
-- Assumes nothing.
use Rattle.std.specs.Prelude.{◌≡◌, cond, List, ℕ}
use Rattle.protocol.specs.Says.{answer_says}
use Rattle.runs.specs.Whole.{Ran}
use Rattle.protocol.specs.declared.Answer.{Answer}
use Rattle.protocol.specs.declared.Worker.{Worker}
use Rattle.records.specs.Records.{is_record}

abbrev pub Comes : Ran → Answer → Worker → ℕ → List ℕ → Type 0
Comes r answer worker steps words =
    (answer_says answer ≡ r.call.says) × (worker ≡ r.call.worker) × (steps ≡ r.steps) × (words ≡ r.call.words)

-- how many steps were made: words that are no record are refused at the first
unfoldable pub steps_made : List ℕ → Ran → ℕ
steps_made s r = cond (is_record s) r.steps 1
