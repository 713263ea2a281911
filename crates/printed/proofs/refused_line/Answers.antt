use Rattle.printed.specs.Printing.{refused_line}
use Rattle.layout.proofs.FillLaws.{put_then}
use Rattle.printed.proofs.refused_line.Goals as goal

pub returns : goal.returns
unfolding refused_line
returns c = put_then (put_then c.put_line-a.ensures c.put_word-b.ensures) c.put_number.ensures
