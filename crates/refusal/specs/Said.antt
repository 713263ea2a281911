-- What a call comes to, in document 01's terms: a value, or a refusal by its number. The code's answers are Results; `said` says
-- what each of them is, and the promises use it.
-- Assumes nothing.
use Rattle.std.specs.Prelude.{ℕ, Result, Ok, Err}
use Rattle.refusal.specs.declared.Refusal.{Refusal}
use Rattle.refusal.specs.declared.Refusal.TheVariants as why

pub data Said (A : Type 0) : Type 0 where
  gives : A → Said A
  refuses : ℕ → Said A

-- the numbers of refusal
abbrev pub number : Refusal → ℕ
number why.Table = 1
number why.State = 2
number why.Range = 3
number why.Busy = 4
number why.Damaged = 6
number why.Stored = 7
number why.Working = 8
number why.Readers = 9
number why.Text = 10
number why.Beyond = 11
number why.Unknown = 12
number why.None = 13

-- what an answer says: its value as it is, or the number of its refusal
abbrev pub said : {A : Type 0} → Result A Refusal → Said A
said (Ok a) = gives a
said (Err e) = refuses (number e)

-- of a judge, who gives no value: 0 where nothing is refused, else the number
abbrev pub judged : {A : Type 0} → Result A Refusal → ℕ
judged (Ok a) = 0
judged (Err e) = number e
