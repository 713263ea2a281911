-- Each moment that exists is the date and time of a legal key.
-- Assumes nothing.
use mathlib.Core.Path.{◌≡◌, ap}
use mathlib.Core.Bool.{true}
use Prim.Native.Nat.{ℕ}
use Rattle.moment.specs.Calendar.{moment_exists}
use Rattle.moment.specs.Key.{moment_of, in_range, key_of_fields, fields_of, legal_of}
use Rattle.moment.specs.declared.Fields.{Fields}
use Rattle.moment.specs.declared.Moment.{Moment}
use Rattle.moment.proofs.Packing.{unpack_pack, packed_legal}

-- the first frame of camera 0 at a moment
abbrev frame : Moment → Fields
frame m = record { moment = m; hundredth = 0; camera = 0; number = 0 }

in_range_lem : (m : Moment) → moment_exists m ≡ true → in_range (frame m) ≡ true
unfolding in_range moment_of
in_range_lem m e = rw e

pub key_of_moment : (m : Moment) → moment_exists m ≡ true → (key : ℕ) × (legal_of key ≡ true) × (moment_of (fields_of key) ≡ m)
unfolding moment_of
key_of_moment m e =
    let r = in_range_lem m e in
    (key_of_fields (frame m), packed_legal (frame m) r, ap moment_of (unpack_pack (frame m) r))
