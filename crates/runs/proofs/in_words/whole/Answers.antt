use Rattle.runs.proofs.InWords.{whole_not_begun, whole_begins}
use Rattle.runs.proofs.in_words.whole.Goals as goal

pub returns-then-begun-ne-FINE : goal.returns-then-begun-ne-FINE
returns-then-begun-ne-FINE c =
    whole_not_begun c.args.words.now c.args.lent.now c.args.kind c.args.key c.start-begun.ensures c.if-begun-ne-FINE.true

pub returns : goal.returns
returns c =
    whole_begins c.args.words.now c.args.lent.now c.args.kind c.args.key c.start-begun.ensures c.if-begun-ne-FINE.false c.to_end.ensures.0
