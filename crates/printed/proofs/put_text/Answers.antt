use Rattle.printed.proofs.Texts.{text_put}
use Rattle.printed.proofs.put_text.Goals as goal

pub returns : goal.returns
returns c = text_put _ c.args.at c.args.key _ c.requires.0 c.requires.1 c.write_text.ensures.buffer
