use mathlib.Core.Path.{◌≡◌, sym, ◌∙◌}
use mathlib.Core.Bool.{Bool, true}
use mathlib.Core.List.{List}
use Prim.Native.Nat.{ℕ}
use native.Mathlib.Omega.{arith}
use borrow.Author.Rules.{rules}
use Rattle.records.specs.Records.{is_walk}
use Rattle.records.proofs.Walks.{walk_length}
use Rattle.calls.proofs.WalkCalls.{walk_one, walk_call}
use Rattle.calls.proofs.other_step.Goals as goal

-- the words are a walk's, where `records::is_walk` says so
walks : (s : List ℕ) (b : Bool) → b ≡ is_walk s → b ≡ true → is_walk s ≡ true
walks s b e t = sym e ∙ t

pub returns-then-not-table_fine : goal.returns-then-not-table_fine
returns-then-not-table_fine c =
    let w = walk_one _ _ (walks _ _ c.is_walk.ensures c.if-not-is_walk.false) (sym c.table_fine.ensures ∙ c.if-not-table_fine.true) in
    (c.number.ensures ∙ w.0, w.1, w.2)

pub bounds-lent-1 : goal.bounds-lent-1
bounds-lent-1 c = omega (arith, walk_length _ (walks _ _ c.is_walk.ensures c.if-not-is_walk.false))

pub bounds-lent-3 : goal.bounds-lent-3
bounds-lent-3 c = omega (arith, walk_length _ (walks _ _ c.is_walk.ensures c.if-not-is_walk.false))

pub bounds-lent-4 : goal.bounds-lent-4
bounds-lent-4 c = omega (arith, walk_length _ (walks _ _ c.is_walk.ensures c.if-not-is_walk.false))

pub bounds-lent-6 : goal.bounds-lent-6
bounds-lent-6 c = omega (arith, walk_length _ (walks _ _ c.is_walk.ensures c.if-not-is_walk.false))

pub returns-in-Some : goal.returns-in-Some
returns-in-Some c =
    let p = rw c.key.ensures at c.walk_on.ensures in
    walk_call _ _ _ (walks _ _ c.is_walk.ensures c.if-not-is_walk.false) (sym c.walk_fine.ensures ∙ search rules) (sym c.in-Some.is ∙ c.walk_to.ensures) p
