use mathlib.Core.Path.{◌∙◌}
use native.Mathlib.Omega.{arith}
use Rattle.lines.proofs.Scanning.{scan_more, more}
use Rattle.lines.proofs.front_of.Goals as goal

pub loop-i-preserved : goal.loop-i-preserved
loop-i-preserved c =
    let l = c.loop-i in
    let digit = c.is_ascii_digit.ensures.value in
    record {
      few = omega arith;
      within = more l.value l.i _ l.invariant.within cc;
      scanned = l.invariant.scanned ∙ scan_more c.args.s.now l.i l.value l.i (omega arith) c.if-b-eq32.false (cc) (omega arith);
    }
