use Rattle.std.proofs.Common.{◌≡◌, sym, ap, ◌∙◌, arith}
use Rattle.pana_id.specs.Id.{pair, depth}
use Rattle.pana_id.specs.Node.{tree as id_of}
use Rattle.pana_stamp.proofs.growing.+walk.Goals as goal

pub least_cost-least_cost_in-requires : goal.least_cost-least_cost_in-requires
least_cost-least_cost_in-requires t c =
    let same : depth (pair (id_of c.of_single.result.left) (id_of c.of_single.result.right)) ≡ depth (id_of c.args.id.now) = ap depth c.of_single.ensures ∙ sym (ap (λ n. depth (id_of n)) c.in-Single.is) in
    (omega (arith, same), omega (arith, same, c.requires))
