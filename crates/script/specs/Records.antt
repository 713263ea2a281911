-- A record as eleven words, and as words of a line.
use Rattle.std.specs.Prelude.{◌≡◌, ◌≢◌, Contains, ℕ, List, [], ◌∷◌, ◌++◌, ◌-◌, ◌^◌, codes, true, false}
use Rattle.std.specs.List.{flat_map}
use Rattle.std.specs.Str.Parse.{digits_value}
use Rattle.std.specs.Fmt.{decimal, digits, padded_integral, format_spec}
use Rattle.script.specs.Names.{work_name, phase_name, side_name, work_number, phase_number, side_number}
use Rattle.script.specs.declared.names.Phase.{Phase}
use Rattle.script.specs.declared.names.Phase.TheVariants.{Walk, OnRouting, New, Two, One, Leaf, UnderData, UnderRouting}
use Rattle.script.specs.declared.records.Note.{Note}
use Rattle.script.specs.declared.records.Note.TheVariants.{This, Previous, Side, Before, Up, Child, ChildSide, Done}
use Rattle.script.specs.declared.records.Record.{Record}

-- what a phase notes, in the order of a line
abbrev pub notes_of : Phase → List Note
notes_of Walk = This ∷ Previous ∷ Side ∷ Before ∷ Up ∷ []
notes_of OnRouting = This ∷ Done ∷ []
notes_of New = Previous ∷ Side ∷ Done ∷ []
notes_of Two = This ∷ Done ∷ []
notes_of One = This ∷ Previous ∷ Side ∷ Child ∷ ChildSide ∷ Done ∷ []
notes_of Leaf = This ∷ Previous ∷ Side ∷ Before ∷ Up ∷ []
notes_of UnderData = This ∷ Previous ∷ Side ∷ Done ∷ []
notes_of UnderRouting = This ∷ Previous ∷ Side ∷ Before ∷ Up ∷ Child ∷ Done ∷ []

-- a note as a word
abbrev pub note_word : Record → Note → List ℕ
note_word r This = decimal r.this
note_word r Previous = decimal r.previous
note_word r Side = side_name r.side
note_word r Before = decimal r.before
note_word r Up = side_name r.up
note_word r Child = decimal r.child
note_word r ChildSide = side_name r.child_side
note_word r Done = decimal r.done

abbrev pub note_text : Record → Note → List ℕ
note_text r n = codes " " ++ note_word r n

-- a note as a number
abbrev pub note_number : Record → Note → ℕ
note_number r This = r.this
note_number r Previous = r.previous
note_number r Side = side_number r.side
note_number r Before = r.before
note_number r Up = side_number r.up
note_number r Child = r.child
note_number r ChildSide = side_number r.child_side
note_number r Done = r.done

-- what the phase does not note is 0, and left
abbrev pub NotesNoMore : Record → Type 0
NotesNoMore r = (n : Note) → ¬ (Contains (notes_of r.phase) n) → note_number r n ≡ 0

-- the word says this note
abbrev pub SaysNote : Record → Note → List ℕ → Type 0
SaysNote r This word = r.this ≡ digits_value 10 word
SaysNote r Previous word = r.previous ≡ digits_value 10 word
SaysNote r Side word = side_name r.side ≡ word
SaysNote r Before word = r.before ≡ digits_value 10 word
SaysNote r Up word = side_name r.up ≡ word
SaysNote r Child word = r.child ≡ digits_value 10 word
SaysNote r ChildSide word = side_name r.child_side ≡ word
SaysNote r Done word = r.done ≡ digits_value 10 word

-- the phase and all other notes stay
abbrev pub ChangesOnly : Record → Note → Record → Type 0
ChangesOnly old note new = (new.phase ≡ old.phase) × ((n : Note) → n ≢ note → note_number new n ≡ note_number old n)

-- sixteen large digits, as `{:016X}` writes them
abbrev pub sixteen_digits : ℕ → List ℕ
sixteen_digits n = padded_integral (format_spec 32 0 4 16 (2 ^ 64 - 1)) false [] (digits 16 true n)

-- the work, the key and the phase
abbrev pub head_text : Record → List ℕ
head_text r = work_name r.work ++ (codes " " ++ (sixteen_digits r.key ++ (codes " " ++ phase_name r.phase)))

abbrev pub record_text : Record → List ℕ
record_text r = head_text r ++ flat_map (note_text r) (notes_of r.phase)

-- the eleven words
abbrev pub record_words : Record → List ℕ
record_words r =
    work_number r.work ∷ r.key ∷ phase_number r.phase ∷ r.this ∷ r.previous ∷ side_number r.side ∷ r.before
    ∷ side_number r.up ∷ r.child ∷ side_number r.child_side ∷ r.done ∷ []
