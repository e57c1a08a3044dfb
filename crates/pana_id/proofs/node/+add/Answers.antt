use Rattle.std.proofs.Common.{◌≡◌, IsTrue, sym, ap, subst, ◌∙◌, arith}
use Rattle.pana_id.specs.Id.{pair, depth, are_disjoint}
use Rattle.pana_id.specs.Node.{tree}
use Rattle.pana_id.proofs.Nodes.{some_node, one_meets}
use Rattle.pana_id.proofs.node.+add.Goals as goal

pub Node::sum-unreachable-requires : goal.Node::sum-unreachable-requires
Node::sum-unreachable-requires t c = one_meets _ _ (ap tree c.in-One.is) (some_node _ c.in_default.not-Zero) c.requires

pub Node::sum-sum_with-requires : goal.Node::sum-sum_with-requires
Node::sum-sum_with-requires t c =
    let same : pair (tree c.of_single.result.left) (tree c.of_single.result.right) ≡ tree c.args.left.now = c.of_single.ensures ∙ sym (ap tree c.in-Single.is) in
    (omega (arith, ap depth same), (same, subst (λ i. IsTrue (are_disjoint i (tree c.args.right.now))) (sym same) c.requires))
