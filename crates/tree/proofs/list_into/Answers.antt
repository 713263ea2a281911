use mathlib.Core.Path.{sym}
use Rattle.tree.proofs.Answering.{list_done}
use Rattle.tree.proofs.list_into.Goals as goal

pub returns : goal.returns
returns c = list_done _ _ _ c.slots-n.ensures c.link-l.ensures _ _ _ (sym c.in_ok-may_list.ensures) _ _ c.fill.ensures
