use Rattle.std.proofs.Common.{◌<◌, ◌∙◌, arith}
use Rattle.plan.proofs.HoldLaws.{first_two}
use Rattle.plan.proofs.holds.under_routing_hold.Goals as goal

pub returns-in_default : goal.returns-in_default
returns-in_default c other done h =
    let m = c in
    let l : m.args.i < 2 = omega (arith, m.in_default.in_default-own.rest, h) in
    c.under_data_hold.ensures done (omega (arith, l)) ∙ first_two _ _ _ _ _ other done done _ l
