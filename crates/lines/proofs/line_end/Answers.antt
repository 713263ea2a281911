use mathlib.Core.Path.{refl}
use Prim.Native.Nat.{ℕ}
use native.Mathlib.Omega.{arith}
use lib.Dec.{eqb}
use borrow.Author.Rules.{rules}
use borrow.Author.Tests.{tests}
use Rattle.std.proofs.lemmas.Iterator.{YieldsList-from_slice}
use Rattle.std.proofs.lemmas.Iterator.Search.{position_from_yields_List}
use Rattle.lines.proofs.Bytes.{end_found}
use Rattle.lines.proofs.line_end.Goals as goal

pub returns : goal.returns
returns c =
    let found =
    position_from_yields_List (λ (b : ℕ). eqb b 10) _ _ c.position.result c.position.ensures.ran
    (YieldsList-from_slice {s = c.iter.result} _ c.iter.ensures.rest) (λ x b q k. search (rules, tests)) in
    end_found c.args.s.now _ c.args.at _ _ (omega arith) refl found c.unwrap_or.ensures
