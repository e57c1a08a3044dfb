use Rattle.pana_wire.proofs.open_line.OpenLine.add_one.Goals as goal

pub returns-clause-longer : goal.returns-clause-longer
returns-clause-longer c = c.push_entry.ensures.longer
