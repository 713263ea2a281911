-- The key, packed from the top bit down.
-- Assumes nothing.
use Rattle.std.specs.Prelude.{Bool, cond, ◌&&◌, List, [], ◌∷◌, ℕ, ◌*◌, ◌^◌, leb, ltb}
use Rattle.layout.specs.Layout.{pos, fld, enc}
use Rattle.refusal.specs.Said.{Said, gives, refuses}
use Rattle.moment.specs.Calendar.{moment_exists}
use Rattle.moment.specs.declared.Fields.{Fields}
use Rattle.moment.specs.declared.Moment.{Moment}

-- year 12 bits, month 4, day 5, hour 5, minute 6, second 6, hundredth 7, camera 5, file number 14
abbrev pub key_layout : List ℕ
key_layout = 12 ∷ 4 ∷ 5 ∷ 5 ∷ 6 ∷ 6 ∷ 7 ∷ 5 ∷ 14 ∷ []

-- the fields in that order
abbrev pub listed : Fields → List ℕ
listed f =
    let m = f.moment in
    m.year ∷ m.month ∷ m.day ∷ m.hour ∷ m.minute ∷ m.second ∷ f.hundredth ∷ f.camera ∷ f.number ∷ []

-- their date and time of day
unfoldable pub moment_of : Fields → Moment
moment_of f = f.moment

-- a moment that exists, hundredth to 99, camera to 31, file number to 9999
unfoldable pub in_range : Fields → Bool
in_range f =
    moment_exists (moment_of f) && leb f.hundredth 99 && leb f.camera 31 && leb f.number 9999

-- the number that the fields are packed into
unfoldable pub key_of_fields : Fields → ℕ
key_of_fields f = enc key_layout (listed f)

-- the fields of a key
unfoldable pub fields_of : ℕ → Fields
fields_of key =
    record {
      moment = record {
        year = fld key_layout 0 key;
        month = fld key_layout 1 key;
        day = fld key_layout 2 key;
        hour = fld key_layout 3 key;
        minute = fld key_layout 4 key;
        second = fld key_layout 5 key;
      };
      hundredth = fld key_layout 6 key;
      camera = fld key_layout 7 key;
      number = fld key_layout 8 key;
    }

-- a legal key: a number of 64 bits whose fields are in range
unfoldable pub legal_of : ℕ → Bool
legal_of key = ltb key (2 ^ 64) && in_range (fields_of key)

-- the first moment of 1990, and how many numbers the 1010 years from then on take
abbrev pub first_key : ℕ
first_key = enc key_layout (1990 ∷ 1 ∷ 1 ∷ [])

abbrev pub years_of_keys : ℕ
years_of_keys = 1010 * 2 ^ pos key_layout 0

-- packing: the key, or 3 for fields out of range
unfoldable pub packs : Fields → Said ℕ
packs f = cond (in_range f) (gives (key_of_fields f)) (refuses 3)
