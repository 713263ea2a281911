use Rattle.std.proofs.Common.{◌≡◌, ◌∙◌, ap, sym, drop, arith, refl, rules}
use Rattle.script.proofs.Places.{places, put, sixteen_places, sixteen_utf8}
use Rattle.script.proofs.answers.all_digits.Goals as goal

pub loop-place-init : goal.loop-place-init
loop-place-init c = (refl, refl)

pub loop-place-preserved : goal.loop-place-preserved
loop-place-preserved c =
    let l = c.loop-place in
    (search rules, put l.digits l.place l.rest _ _ c.loop-place-test.true (omega (arith, l.invariant.0)) c.last_digit.ensures l.invariant.1)

pub returns : goal.returns
returns c =
    let l = c.loop-place in
    let front : l.place ≡ 0 = omega (arith, c.loop-place-test.false) in
    let digits = sym (ap (λ p. places p l.rest (drop p l.digits)) front) ∙ l.invariant.1 ∙ sixteen_places c.args.number c.ranges.number.fits in
    record { digits = digits; text = sixteen_utf8 c.args.number _ c.ranges.number.fits digits }
