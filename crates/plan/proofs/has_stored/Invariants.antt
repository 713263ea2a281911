use Rattle.std.proofs.Common.{◌≡◌, false}
use Rattle.protocol.specs.Calls.{stored}
use Rattle.plan.proofs.has_stored.Given as goal

-- none of the first i has stored
abbrev pub invariant-loop-i : goal.invariant-loop-i
invariant-loop-i l = false ≡ stored l.phase l.i
