-- For every input each promise leaves one answer: any two that it allows are equal.
-- Assumes nothing.
use mathlib.Core.Path.{◌≡◌, sym, ◌∙◌}
use mathlib.Core.Bool.{Bool}
use Prim.Native.Nat.{ℕ}
use Rattle.moment.specs.Calendar.{leap_of, days_in, date_exists, time_exists, moment_exists}
use Rattle.moment.specs.Key.{moment_of, in_range, packs, fields_of, legal_of}
use Rattle.moment.specs.declared.Fields.{Fields}
use Rattle.moment.specs.declared.Moment.{Moment}
use Rattle.refusal.specs.Said.{said}
use Rattle.refusal.specs.declared.Refusal.{Refusal}
use Rattle.refusal.proofs.SaidLaws.{said_one}
use Rattle.std.specs.Prelude.{Result}

pub leap_one : (year : ℕ) (a b : Bool) → a ≡ leap_of year → b ≡ leap_of year → a ≡ b
leap_one year a b p q = p ∙ sym q

pub days_in_one : (year month : ℕ) (a b : ℕ) → a ≡ days_in year month → b ≡ days_in year month → a ≡ b
days_in_one year month a b p q = p ∙ sym q

pub date_exists_one : (year month day : ℕ) (a b : Bool) → a ≡ date_exists year month day → b ≡ date_exists year month day → a ≡ b
date_exists_one year month day a b p q = p ∙ sym q

pub time_exists_one : (hour minute second : ℕ) (a b : Bool) → a ≡ time_exists hour minute second → b ≡ time_exists hour minute second → a ≡ b
time_exists_one hour minute second a b p q = p ∙ sym q

pub moment_exists_one : (m : Moment) (a b : Bool) → a ≡ moment_exists m → b ≡ moment_exists m → a ≡ b
moment_exists_one m a b p q = p ∙ sym q

pub moment_of_one : (f : Fields) (a b : Moment) → a ≡ moment_of f → b ≡ moment_of f → a ≡ b
moment_of_one f a b p q = p ∙ sym q

pub in_range_one : (f : Fields) (a b : Bool) → a ≡ in_range f → b ≡ in_range f → a ≡ b
in_range_one f a b p q = p ∙ sym q

pub unpack_one : (key : ℕ) (a b : Fields) → a ≡ fields_of key → b ≡ fields_of key → a ≡ b
unpack_one key a b p q = p ∙ sym q

pub legal_one : (key : ℕ) (a b : Bool) → a ≡ legal_of key → b ≡ legal_of key → a ≡ b
legal_one key a b p q = p ∙ sym q

pub pack_one : (f : Fields) (a b : Result ℕ Refusal) → said a ≡ packs f → said b ≡ packs f → a ≡ b
pack_one f a b p q = said_one a b (p ∙ sym q)
