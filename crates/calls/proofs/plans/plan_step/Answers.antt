use mathlib.Core.Path.{sym, ◌∙◌}
use Rattle.records.proofs.TakenApart.{parts_words, parts_nothing}
use Rattle.calls.specs.Numbers.{verdict_number}
use Rattle.calls.proofs.Calls.{unread_call}
use Rattle.calls.proofs.plans.plan_step.Goals as goal

pub parts_step-requires : goal.parts_step-requires
parts_step-requires c = parts_words _ _ (sym c.take_apart.ensures ∙ c.in-Some.is)

pub returns-in-None : goal.returns-in-None
returns-in-None c =
    unread_call verdict_number _ _ _ (parts_nothing _ (sym c.take_apart.ensures ∙ c.in-None.is)) (c.number.ensures ∙ c.unread.ensures)
