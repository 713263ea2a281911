use Rattle.records.specs.Records.{is_walk}
use Rattle.records.proofs.Names.{named_listed}
use Rattle.records.proofs.is_walk.Goals as goal

pub returns : goal.returns
unfolding is_walk
returns c = rw (named_listed _ _ c.in-Some.ensures)
