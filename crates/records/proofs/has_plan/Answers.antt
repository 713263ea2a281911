use Rattle.records.specs.Records.{has_plan}
use Rattle.records.proofs.Names.{named_listed}
use Rattle.records.proofs.has_plan.Goals as goal

pub returns : goal.returns
unfolding has_plan
returns c = rw (named_listed _ _ c.in-Some.ensures)
