use Rattle.printed.specs.Printing.{decimal}
use Rattle.layout.proofs.FillLaws.{put_then}
use Rattle.printed.proofs.put_line.Goals as goal

pub returns : goal.returns
unfolding decimal
returns c = put_then c.put_word-a.ensures c.put_digits.ensures
