use Rattle.std.proofs.Common.{ap₂, ◌∙◌}
use Rattle.pana_id.specs.Id.{pair}
use Rattle.pana_id.specs.Node.{tree}
use Rattle.pana_id.specs.declared.node.Halves.{Halves}
use Rattle.pana_id.proofs.node.Node.of_box.Goals as goal

pub returns-in-Some : goal.returns-in-Some
returns-in-Some c = c.in-Some.ensures ∙ ap₂ (λ (a b : Halves). pair (tree a.left) (tree b.right)) c.deref.ensures c.deref-2.ensures
