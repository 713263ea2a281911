-- What reading a word or a number back comes to.
use Rattle.std.specs.Prelude.{◌≡◌, ◌≢◌, Result, MatchResult}

-- Ok has the value that is shown as this; an error says that no value is
abbrev pub Inverts : {A B E : Type 0} → (A → B) → B → Result A E → Type 0
Inverts {A} shown b r = MatchResult r (λ a. b ≡ shown a) (λ _. (a : A) → b ≢ shown a)
