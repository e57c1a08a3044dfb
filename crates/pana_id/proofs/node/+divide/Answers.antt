use Rattle.std.proofs.Common.{sym, ap, ◌∙◌}
use Rattle.pana_id.specs.Id.{pair, zero_id, parts}
use Rattle.pana_id.specs.Node.{tree}
use Rattle.pana_id.proofs.Nodes.{some_node, parts_of_left, parts_of_both}
use Rattle.pana_id.proofs.node.+divide.Goals as goal

pub Halves::split-returns-in_ok-second-in_default-Zero : goal.Halves::split-returns-in_ok-second-in_default-Zero
Halves::split-returns-in_ok-second-in_default-Zero t c =
    parts_of_left _ _ _ _ _ (some_node _ c.in_default-Zero.not-Zero-0) c.in_ok-first-in_default-Zero.ensures c.in_ok-first-in_default-Zero-2.ensures c.in_ok-second-in_default-Zero.ensures
    ∙ sym (ap (λ r. parts (pair (tree c.args.self.now.left) (tree r))) c.in_default-Zero.is-1)

pub Halves::split-returns-in_ok-second-in_default : goal.Halves::split-returns-in_ok-second-in_default
Halves::split-returns-in_ok-second-in_default t c =
    parts_of_both _ _ _ _ (some_node _ c.in_default.not-Zero-0) (some_node _ c.in_default.not-Zero-1)
    (c.in_ok-first-in_default.ensures ∙ ap (λ l. pair l zero_id) c.in_ok-copy_of-in_default.ensures)
    (c.in_ok-second-in_default.ensures ∙ ap (λ r. pair zero_id r) c.in_ok-copy_of-in_default-2.ensures)
