use mathlib.Core.Path.{◌≡◌}
use lib.ListN.{length}
use lib.Seq.{sets}
use Rattle.printed.specs.Printing.{hex_of}
use Rattle.printed.proofs.put_key.Given as goal

abbrev pub invariant-loop-i : goal.invariant-loop-i
invariant-loop-i l =
    record {
      size : length l.out ≡ length l.initial.out;
      left : sets l.out l.at (hex_of l.i l.rest) ≡ sets l.initial.out l.at (hex_of 16 l.key);
    }
