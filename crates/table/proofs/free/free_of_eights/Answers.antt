use Rattle.std.proofs.Common.{◌≡◌, ◌+◌, ◌*◌, arith}
use Rattle.table.proofs.FreeLaws.{eight_more}
use Rattle.table.proofs.free.free_of_eights.Goals as goal
use Rattle.table.proofs.free.free_of_eights.Goals.{then-and_four-lt-TAKEN+in_default, else-and_four-lt-TAKEN}

pub loop-e-preserved : goal.loop-e-preserved
loop-e-preserved c =
    elim c.if-and_four-lt-TAKEN.branch [
      | then-and_four-lt-TAKEN+in_default w ↦
          let n : 8 * c.loop-e.e + 1 + 8 ≡ 8 * (c.loop-e.e + 1) + 1 = omega arith in
          rw n at w.in_default.ensures
      | else-and_four-lt-TAKEN w ↦
          eight_more _ _ _ (omega arith) (omega arith) (λ i. (c.type_inv.t i).fits)
          (rw (c.and_four.ensures, c.and_four-in-loop-e.ensures) at w.if-and_four-lt-TAKEN.false) c.loop-e.invariant
    ]
