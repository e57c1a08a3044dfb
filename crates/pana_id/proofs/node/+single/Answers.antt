use Rattle.std.proofs.Common.{◌-◌, ◌&&◌, sym, ap, ◌∙◌}
use Rattle.std.proofs.lemmas.Bool.{lt-ltb}
use Rattle.pana_id.specs.Id.{pair, is_single}
use Rattle.pana_id.specs.Node.{tree}
use Rattle.pana_id.proofs.Nodes.{some_node, single_left, single_none, single_shallow}
use Rattle.pana_id.proofs.node.+single.Goals as goal

pub Halves::is_single_at-returns-then-at-gt0-2 : goal.Halves::is_single_at-returns-then-at-gt0-2
Halves::is_single_at-returns-then-at-gt0-2 t c =
    c.is_single_at-then-at-gt0-2.ensures
    ∙ sym (ap (λ r. is_single (pair (tree c.args.self.now.left) (tree r)) c.args.at) c.in_default-Zero.is-1
    ∙ single_left (tree c.args.self.now.left) c.args.at
    ∙ ap (λ b. b && is_single (tree c.args.self.now.left) (c.args.at - 1)) (lt-ltb _ _ c.if-at-gt0-2.true))

pub Halves::is_single_at-returns-in_default : goal.Halves::is_single_at-returns-in_default
Halves::is_single_at-returns-in_default t c =
    sym (single_none _ _ c.args.at (some_node _ c.in_default.not-Zero-0) (some_node _ c.in_default.not-Zero-1))

pub Halves::is_single_at-returns-else-at-gt0-2 : goal.Halves::is_single_at-returns-else-at-gt0-2
Halves::is_single_at-returns-else-at-gt0-2 t c =
    single_shallow (tree c.args.self.now.left) c.args.at c.if-at-gt0-2.false
    ∙ sym (ap (λ r. is_single (pair (tree c.args.self.now.left) (tree r)) c.args.at) c.in_default-Zero.is-1)
