use lib.ListN.{drop}
use mathlib.Core.Path.{◌≡◌}
use Rattle.exif.specs.Reading.{shaped}
use Rattle.exif.proofs.has_form.Given as goal

abbrev pub invariant-loop-i : goal.invariant-loop-i
invariant-loop-i l = shaped l.form l.t ≡ shaped (drop l.i l.form) (drop l.i l.t)
