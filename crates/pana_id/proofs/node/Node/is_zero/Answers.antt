use Rattle.std.proofs.Common.{suc, sym, ap, ◌∙◌}
use Rattle.pana_id.proofs.Numbered.{is_zero-single}
use Rattle.pana_id.specs.Id.{is_zero}
use Rattle.pana_id.specs.Node.{tree}
use Rattle.pana_id.proofs.node.Node.is_zero.Goals as goal

pub returns-in-Single : goal.returns-in-Single
returns-in-Single c = sym (ap (λ node. is_zero (tree node)) c.in-Single.is ∙ is_zero-single 64 (suc c.in-Single.field-0))
