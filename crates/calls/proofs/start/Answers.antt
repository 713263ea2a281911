use mathlib.Core.Path.{sym, ◌∙◌}
use Rattle.calls.proofs.StartCalls.{start_call, start_wrong}
use Rattle.calls.proofs.start.Goals as goal

pub returns-then-not-legal : goal.returns-then-not-legal
returns-then-not-legal c =
    let w = start_wrong _ _ _ c.args.key (c.opens_quick.ensures c.if-opens_quick.true) (sym c.legal.ensures ∙ c.if-not-legal.true) in
    (c.number.ensures ∙ w.0, w.1, w.2)

pub returns-then-opens_quick : goal.returns-then-opens_quick
returns-then-opens_quick c =
    start_call _ _ _ _ (c.opens_quick.ensures c.if-opens_quick.true) (sym c.legal.ensures ∙ c.if-not-legal.false) c.put_started.ensures c.take_seat.ensures
