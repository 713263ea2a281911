use mathlib.Core.Path.{sym, ◌∙◌}
use Rattle.locks.specs.Taking.{given_up}
use Rattle.locks.proofs.give_up.Goals as goal

pub returns-then-not-all_held : goal.returns-then-not-all_held
unfolding given_up
returns-then-not-all_held c =
    let p = sym c.all_held.ensures ∙ c.if-not-all_held.true in
    (sym p, simp p)

pub returns : goal.returns
unfolding given_up
returns c =
    let p = sym c.all_held.ensures ∙ c.if-not-all_held.false in
    (sym p, simp p c.release_all.ensures)
