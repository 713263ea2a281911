use borrow.Author.Rules.{rules}
use mathlib.Core.Path.{sym, ◌∙◌}
use Rattle.runs.proofs.ByValue.{one_more, the_last, no_more}
use Rattle.runs.proofs.by_value.steps.Goals as goal

pub returns-then-not-goes_on : goal.returns-then-not-goes_on
returns-then-not-goes_on c =
    the_last c.loop-made.invariant.0 c.step-s.result.answer c.loop-made-test.true c.step-s.ensures (sym c.goes_on.ensures ∙ c.if-not-goes_on.true)

pub loop-made-preserved : goal.loop-made-preserved
loop-made-preserved c = (
  one_more c.loop-made.invariant.0 c.step-s.result.answer c.loop-made-test.true c.step-s.ensures (sym c.goes_on.ensures ∙ c.if-not-goes_on.false),
  search rules,
)

pub returns : goal.returns
returns c = no_more c.loop-made.invariant.0 c.loop-made-test.false
