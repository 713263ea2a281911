use mathlib.Core.Path.{sym, ap}
use mathlib.Core.Bool.{not, ◌&&◌}
use mathlib.Core.Logic.{inl, inr}
use lib.Dec.{eqb}
use native.Mathlib.Omega.{arith}
use Rattle.tree.proofs.Recursions.{every_more, picked_more, byte_few}
use Rattle.tree.proofs.Counting.{bits_fail, zero_fails, pair_passes, live_test, sound_not}
use Rattle.tree.proofs.judge.is_sound.Goals as goal
use Rattle.tree.proofs.judge.is_sound.Goals.{then-s-eq-FREE+else-not-zero_pair, else-s-eq-FREE}

pub returns-then-not-bits_fine : goal.returns-then-not-bits_fine
returns-then-not-bits_fine c = sound_not _ c.requires _ c.slots-n.ensures _ c.loop-i-test.true
    (bits_fail _ _ c.loop-i.i _ c.bits_fine.ensures (ap not c.if-not-bits_fine.true))

pub returns-then-not-zero_pair : goal.returns-then-not-zero_pair
returns-then-not-zero_pair c = sound_not _ c.requires _ c.slots-n.ensures _ c.loop-i-test.true
    (zero_fails _ _ _ _ c.bits_fine.ensures c.state-s.ensures _ c.zero_pair.ensures c.if-s-eq-FREE.true (ap not c.if-not-zero_pair.true))

pub loop-i-preserved : goal.loop-i-preserved
loop-i-preserved c = let i = c.loop-i.invariant in
    record {
      few = omega (arith, i.few, byte_few (not (eqb c.state-s.result 0) && not (eqb c.state-s.result 3)));
      sound = every_more _ _ i.sound (pair_passes _ _ _ _ c.bits_fine.ensures c.state-s.ensures (ap not c.if-not-bits_fine.false)
          (elim c.if-s-eq-FREE.branch [
            | then-s-eq-FREE+else-not-zero_pair w ↦ inl (w.if-s-eq-FREE.true, sym w.if-not-zero_pair.ensures)
            | else-s-eq-FREE w ↦ inr w.if-s-eq-FREE.false
          ]));
      counted = picked_more _ _ _ _ _ _ i.counted (live_test _ _ _ _ c.bits_fine.ensures c.state-s.ensures c.loop-i.auto.i) c.from-room.ensures;
    }
