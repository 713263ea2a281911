use Rattle.plan.proofs.RoleLaws.{under_law}
use Rattle.plan.proofs.roles.under_routing_roles.Goals as goal

pub returns : goal.returns
returns c = under_law _ _ _ _ _ _ _ _ _ _ c.walk_roles.ensures c.walk_roles-2.ensures
