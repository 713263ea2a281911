use borrow.Author.Rules.{rules}
use native.Mathlib.Omega.{arith}
use Rattle.runs.proofs.InWords.{lasts_one, lasts_last, lasts_all, to_rest}
use Rattle.runs.proofs.in_words.to_end.Goals as goal

pub returns-then-answer-ne-FINE : goal.returns-then-answer-ne-FINE
returns-then-answer-ne-FINE c =
    to_rest c.args.words.now c.args.lent.now c.most_steps-most.ensures
    (lasts_last c.loop-made.invariant.0 c.loop-made-test.true c.step-answer.ensures c.if-answer-ne-FINE.true)

pub loop-made-preserved : goal.loop-made-preserved
loop-made-preserved c =
    (lasts_one c.loop-made.invariant.0 c.loop-made-test.true c.step-answer.ensures c.if-answer-ne-FINE.false, search rules, search rules)

pub returns : goal.returns
returns c =
    let e = c.most_steps-most.ensures in
    to_rest c.args.words.now c.args.lent.now e (lasts_all c.loop-made.invariant.0 c.loop-made-test.false (omega (arith, e)))
