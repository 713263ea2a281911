use Rattle.printed.proofs.Puts.{put_room}
use Rattle.printed.proofs.put_word.Goals as goal

pub returns : goal.returns
returns c = put_room _ _ _ _ c.requires c.append.ensures.1
