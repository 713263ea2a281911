use mathlib.Core.Path.{◌≡◌}
use Prim.Native.Nat.{◌≤◌, ◌<◌, ◌^◌}
use lib.ListN.{drop}
use Rattle.lines.specs.Line.{front_of}
use Rattle.lines.proofs.Scanning.{scan}
use Rattle.lines.proofs.front_of.Given as goal

abbrev pub invariant-loop-i : goal.invariant-loop-i
invariant-loop-i l =
    record {
      few : l.i ≤ 5;
      within : l.value < 10 ^ l.i;
      scanned : front_of l.s ≡ scan l.value l.i (drop l.i l.s);
    }
