use Rattle.std.proofs.Common.{[], ◌≡◌, length, drop}
use Rattle.script.proofs.Places.{places}
use Rattle.script.proofs.answers.all_digits.Given as goal

abbrev pub invariant-loop-place : goal.invariant-loop-place
invariant-loop-place l = (length l.digits ≡ 16) × (places l.place l.rest (drop l.place l.digits) ≡ places 16 l.number [])
