use mathlib.Core.Path.{refl}
use Rattle.printed.specs.Printing.{decimal}
use Rattle.printed.proofs.Puts.{put_byte}
use Rattle.printed.proofs.put_number.Goals as goal

pub returns : goal.returns
unfolding decimal
returns c = put_byte _ c.put_digits-end.ensures refl
