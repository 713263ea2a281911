-- What a call of the library says, by its number.
use Rattle.std.specs.Prelude.{ℕ, List, ◌++◌, codes, ◌==◌, if◌then◌else◌}
use Rattle.std.specs.Fmt.{decimal}
use Rattle.script.specs.declared.answers.Answer.{Answer}
use Rattle.script.specs.declared.answers.Answer.TheVariants.{Done, Full, Yes, No, Refused}

abbrev pub answer_of : ℕ → Answer
answer_of n =
    if n == 0 then Done else if n == 5 then Full else if n == 16 then Yes else if n == 17 then No else Refused n

abbrev pub answer_text : Answer → List ℕ
answer_text Done = codes "done"
answer_text Full = codes "full"
answer_text Yes = codes "yes"
answer_text No = codes "no"
answer_text (Refused n) = codes "refused " ++ decimal n
