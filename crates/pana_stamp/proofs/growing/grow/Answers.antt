use Rattle.std.proofs.Common.{sym, ap, ◌∙◌}
use Rattle.pana_id.specs.Node.{tree as id_of}
use Rattle.pana_stamp.proofs.growing.grow.Goals as goal

pub grow_one-requires-clause-one : goal.grow_one-requires-clause-one
grow_one-requires-clause-one c = sym c.node.ensures.same ∙ ap id_of c.in-Single.is
