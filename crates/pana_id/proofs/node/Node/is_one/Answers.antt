use Rattle.std.proofs.Common.{sym, ap, ◌∙◌}
use Rattle.pana_id.proofs.Numbered.{is_one-single}
use Rattle.pana_id.specs.Id.{is_one}
use Rattle.pana_id.specs.Node.{tree}
use Rattle.pana_id.proofs.node.Node.is_one.Goals as goal

pub returns-in-Single : goal.returns-in-Single
returns-in-Single c = sym (ap (λ node. is_one (tree node)) c.in-Single.is ∙ is_one-single c.in-Single.field-0)
