use mathlib.Core.Path.{refl}
use Rattle.printed.proofs.Puts.{put_byte, digits_more}
use Rattle.printed.proofs.+put_digits.Goals as goal

pub returns : goal.returns
returns t c = rw (digits_more _ _ c.if-most-eq0.false c.if-n-lt10.false) (put_byte _ c.put_digits-last.ensures refl)
