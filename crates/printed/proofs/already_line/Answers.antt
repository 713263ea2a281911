use Rattle.printed.specs.Printing.{already_line}
use Rattle.layout.proofs.FillLaws.{put_then}
use Rattle.printed.proofs.already_line.Goals as goal

pub returns : goal.returns
unfolding already_line
returns c = put_then c.put_line-a.ensures c.put_word.ensures
