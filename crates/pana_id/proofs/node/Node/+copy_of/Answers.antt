use Rattle.std.proofs.Common.{sym, ap}
use Rattle.pana_id.specs.Node.{tree}
use Rattle.pana_id.proofs.node.Node.+copy_of.Goals as goal

pub returns-in-Single : goal.returns-in-Single
returns-in-Single t c = sym (ap tree c.in-Single.is)
