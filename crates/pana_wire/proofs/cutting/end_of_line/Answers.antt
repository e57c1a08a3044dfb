use Rattle.pana_wire.proofs.Cut.{first_newline}
use Rattle.pana_wire.proofs.cutting.end_of_line.Goals as goal

pub returns : goal.returns
returns c = first_newline c.args.text.now c.memchr.result c.memchr.ensures
