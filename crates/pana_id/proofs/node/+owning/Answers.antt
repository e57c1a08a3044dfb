use Rattle.std.proofs.Common.{◌≡◌, sym, ap, ◌∙◌, arith}
use Rattle.pana_id.specs.Id.{pair, depth}
use Rattle.pana_id.specs.Node.{tree}
use Rattle.pana_id.proofs.node.+owning.Goals as goal

pub Node::has-has-requires : goal.Node::has-has-requires
Node::has-has-requires t c =
    let same : depth (pair (tree c.of_single.result.left) (tree c.of_single.result.right)) ≡ depth (tree c.args.self.now) = ap depth c.of_single.ensures ∙ sym (ap (λ n. depth (tree n)) c.in-Single.is) in
    (omega (arith, same), omega (arith, same, c.requires))
