-- What a step's answer means in document 01's terms, and the number of each.
-- Assumes nothing.
use Rattle.std.specs.Prelude.{ℕ}
use Rattle.refusal.specs.Said.{Said, gives, refuses, number}
use Rattle.protocol.specs.declared.Answer.{Answer}
use Rattle.protocol.specs.declared.Answer.TheVariants.{Going, Yes, No, Full, Refused}

pub data Verdict : Type 0 where
  going : Verdict
  yes : Verdict
  no : Verdict
  full : Verdict

abbrev pub answer_says : Answer → Said Verdict
answer_says Going = gives going
answer_says Yes = gives yes
answer_says No = gives no
answer_says Full = gives full
answer_says (Refused e) = refuses (number e)

-- the number that document 01 gives it: 5 is what Full prints; 0: it has none
abbrev pub number_of : Said Verdict → ℕ
number_of (gives going) = 0
number_of (gives yes) = 0
number_of (gives no) = 0
number_of (gives full) = 5
number_of (refuses n) = n
