-- What the writer does.
-- Assumes nothing.
use Rattle.std.specs.Prelude.{Result, Ok, Err, cond, List, ◌++◌, ℕ, length, take, drop}
use Rattle.refusal.specs.Said.{Said, gives, refuses, number}
use Rattle.moment.specs.Key.{moment_of, fields_of, legal_of}
use Rattle.exif.specs.Forms.{two_digit_hour}
use Rattle.exif.specs.Parts.{beyond_of}
use Rattle.refusal.specs.declared.Refusal.{Refusal}

-- the buffer with a text of 20 bytes at a place, all else as it was
unfoldable pub put_text : List ℕ → ℕ → List ℕ → List ℕ
put_text buffer place text = take place buffer ++ (text ++ drop 20 (drop place buffer))

-- the buffer with the two-digit form of the key's date and time at the place; 3, then 11
unfoldable pub writes : List ℕ → ℕ → ℕ → Said (List ℕ)
writes buffer place key =
    cond (legal_of key)
    (cond (beyond_of (length buffer) place 20) (refuses 11) (gives (put_text buffer place (two_digit_hour (moment_of (fields_of key))))))
    (refuses 3)

-- what a buffer holds after the call: a refusal leaves it as it was
abbrev pub leaves : Said (List ℕ) → List ℕ → List ℕ
leaves (gives after) before = after
leaves (refuses n) before = before

-- what the writer's answer says, with the buffer as it is after the call
abbrev pub written_says : Result Unit Refusal → List ℕ → Said (List ℕ)
written_says (Ok _) after = gives after
written_says (Err e) after = refuses (number e)
