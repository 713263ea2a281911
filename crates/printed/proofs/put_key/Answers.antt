use Rattle.printed.proofs.Puts.{hex_all}
use native.Mathlib.Omega.{arith}
use Rattle.printed.proofs.put_key.Goals as goal

pub returns : goal.returns
returns c = let l = c.loop-i in hex_all _ _ _ _ l.i l.rest (omega arith) l.invariant.left
