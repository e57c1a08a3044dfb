use Rattle.std.proofs.Common.{sym, ◌∙◌}
use Rattle.pana_wire.proofs.Cut.{cut_first, cut_last}
use Rattle.pana_wire.proofs.cutting.next_line.Goals as goal

pub returns-in-Some-clause-line : goal.returns-in-Some-clause-line
returns-in-Some-clause-line c = cut_first c.args.text.now c.in-Some.end (sym c.end_of_line.ensures ∙ c.in-Some.is)

pub returns-in-None-2-clause-line : goal.returns-in-None-2-clause-line
returns-in-None-2-clause-line c = cut_last c.args.text.now (sym c.end_of_line.ensures ∙ c.in-None.is) (sym c.if-is_empty.ensures)
