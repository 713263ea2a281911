-- What is handed back through a lent place: the value, and after a refusal what was there.
-- Assumes nothing.
use Rattle.std.specs.Prelude.{List, [], ◌∷◌, ℕ, get_or}
use Rattle.refusal.specs.Said.{Said, gives, refuses}
use Rattle.moment.specs.declared.Fields.{Fields}
use Rattle.moment.specs.declared.Moment.{Moment}

-- a value
abbrev pub value_or : {A : Type 0} → Said A → A → A
value_or (gives v) was = v
value_or (refuses n) was = was

-- the six numbers of a moment
abbrev pub six : Moment → List ℕ
six m = m.year ∷ m.month ∷ m.day ∷ m.hour ∷ m.minute ∷ m.second ∷ []

abbrev pub six_or : Said Moment → List ℕ → List ℕ
six_or (gives m) was = six m
six_or (refuses n) was = was

-- the fields that nine numbers are, in the order in which a key packs them
unfoldable pub fields_at : List ℕ → Fields
fields_at s =
    record {
      moment = record {
        year = get_or s 0 0;
        month = get_or s 1 0;
        day = get_or s 2 0;
        hour = get_or s 3 0;
        minute = get_or s 4 0;
        second = get_or s 5 0;
      };
      hundredth = get_or s 6 0;
      camera = get_or s 7 0;
      number = get_or s 8 0;
    }
