-- What a quick action promises, at its ends: it is None and did nothing; it says what it came to and left all words; or it is done.
-- `acting` cites these too.
-- Assumes nothing.
use Rattle.std.specs.Prelude.{◌≡◌, ◌≢◌, List, ℕ, Option, None, IfSome}
use mathlib.Core.Path.{refl}
use Rattle.locks.specs.declared.Acted.{Acted}

pub nothing : (P : Acted → Type 0) {s : Option Acted} {ws : List ℕ} → IfSome None P × (None ≢ s → ws ≡ ws)
nothing P = (tt, λ d. refl)

pub kept : {A : Type 0} {r s : Option Acted} {ws : List ℕ} → A → A × (r ≢ s → ws ≡ ws)
kept a = (a, λ d. refl)

pub done : {A : Type 0} {r : Option Acted} {ws ws' : List ℕ} → A → A × (r ≢ r → ws' ≡ ws)
done a = (a, λ d. absurd (d refl))
