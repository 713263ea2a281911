use mathlib.Core.Path.{sym, ◌∙◌}
use Rattle.records.proofs.Canonical.{read_nothing, read_record}
use Rattle.calls.specs.Numbers.{number}
use Rattle.calls.proofs.Calls.{unread_call, read_call}
use Rattle.calls.proofs.record_start.Goals as goal

pub returns-in_default : goal.returns-in_default
returns-in_default c =
    unread_call number _ _ _ (read_nothing _ (sym c.read.ensures ∙ c.in_default.is)) (c.number.ensures ∙ c.unread.ensures)

pub returns : goal.returns
returns c = let h = read_record _ _ (sym c.read.ensures ∙ c.in-Some.is) in
    let p = c.put_reply.ensures in
    let e = rw h.1 at c.start-begun.ensures in
    read_call number _ _ _ h.0 p.0 e.0 e.1 p.1 e.2
