use Rattle.std.proofs.Common.{sym, ap, ◌∙◌}
use Rattle.pana_id.specs.Id.{are_disjoint}
use Rattle.pana_id.specs.Node.{tree}
use Rattle.pana_id.proofs.Nodes.{some_node, disjoint_one, one_disjoint, disjoint_zero}
use Rattle.pana_id.proofs.node.+apart.Goals as goal

pub Node::is_disjoint-returns-in_default-2 : goal.Node::is_disjoint-returns-in_default-2
Node::is_disjoint-returns-in_default-2 t c =
    sym (ap (λ n. are_disjoint (tree c.args.self.now) (tree n)) c.in_default.is-1 ∙ one_disjoint _ (some_node _ c.in_default.not-Zero-0))

pub Node::is_disjoint-returns-in_default-3 : goal.Node::is_disjoint-returns-in_default-3
Node::is_disjoint-returns-in_default-3 t c =
    sym (ap (λ n. are_disjoint (tree n) (tree c.args.other.now)) c.in_default.is-0 ∙ disjoint_one _ (some_node _ c.in_default.not-Zero-1))

pub Node::is_disjoint-returns-in_default-Zero-2 : goal.Node::is_disjoint-returns-in_default-Zero-2
Node::is_disjoint-returns-in_default-Zero-2 t c =
    sym (ap (λ n. are_disjoint (tree c.args.self.now) (tree n)) c.in_default-Zero.is-1 ∙ disjoint_zero _)
