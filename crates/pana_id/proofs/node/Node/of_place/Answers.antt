use Rattle.std.proofs.Common.{◌≡◌, suc, ◌-◌, ap, arith}
use Rattle.pana_id.specs.Node.{single}
use Rattle.pana_id.proofs.node.Node.of_place.Goals as goal

pub returns-else-number-eq0 : goal.returns-else-number-eq0
returns-else-number-eq0 c =
    let back : suc (c.args.number - 1) ≡ c.args.number = omega (arith, c.if-number-eq0.false) in ap (single 64) back
