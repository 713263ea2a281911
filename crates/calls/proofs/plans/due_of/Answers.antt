use Rattle.calls.proofs.DueWords.{no_work}
use Rattle.calls.proofs.plans.due_of.Goals as goal

pub returns-in_default : goal.returns-in_default
returns-in_default c = let r = c.in_default.in_default-own.rest in no_work _ c.args.f r.0.1 r.1
