-- Every hundredth of a second from 1990 to 2999 is the instant of some legal fields, whatever the camera and the file
-- number: what moving a frame in time will lean on.
-- Assumes nothing.
use mathlib.Core.Path.{◌≡◌, refl}
use mathlib.Core.Bool.{true}
use Prim.Native.Nat.{ℕ, ◌*◌, ◌/◌, ◌%◌, ◌≤◌, ◌<◌}
use native.Mathlib.Omega.{arith}
use Rattle.moment.specs.Key.{in_range}
use Rattle.moment.specs.Instant.{days_of_years, instant_of_fields}
use Rattle.moment.specs.declared.Fields.{Fields}
use Rattle.moment.proofs.Ranges.{ranged}
use Rattle.moment.proofs.Days.{DateOf, date_of}

pub record FieldsAt (n camera number : ℕ) : Type 0 where
  pub fields : Fields
  pub legal : in_range fields ≡ true
  pub is : instant_of_fields fields ≡ n
  pub by_camera : fields.camera ≡ camera
  pub numbered : fields.number ≡ number

-- the hundredths of a day
abbrev pub of_day : ℕ
of_day = 8640000

pub fields_at : (n camera number : ℕ) → n < days_of_years 1010 * of_day → camera ≤ 31 → number ≤ 9999 → FieldsAt n camera number
unfolding instant_of_fields
fields_at n camera number h c k = at (date_of (n / 100 / 60 / 60 / 24) (omega arith))
  where
    made : DateOf (n / 100 / 60 / 60 / 24) → Fields
    made d =
        record {
          moment = record {
            year = d.year;
            month = d.month;
            day = d.day;
            hour = n / 100 / 60 / 60 % 24;
            minute = n / 100 / 60 % 60;
            second = n / 100 % 60;
          };
          hundredth = n % 100;
          camera = camera;
          number = number;
        }

    legal : (d : DateOf (n / 100 / 60 / 60 / 24)) → in_range (made d) ≡ true
    legal d =
        ranged (made d)
        (record {
          on = d.on;
          hour = omega arith;
          minute = omega arith;
          second = omega arith;
          hundredth = omega arith;
          camera = c;
          number = k;
        })

    at : DateOf (n / 100 / 60 / 60 / 24) → FieldsAt n camera number
    at d = record { fields = made d; legal = legal d; is = omega (arith, d.is); by_camera = refl; numbered = refl }
