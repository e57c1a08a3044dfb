use Rattle.std.proofs.Common.{sym, ◌∙◌}
use Rattle.pana_family.proofs.Places.{from_some, from_none}
use Rattle.pana_family.proofs.searching.index_from.Goals as goal

pub returns-in-Some : goal.returns-in-Some
returns-in-Some c = from_some c.args.copy c.in-Some.at c.args.rows.now (sym c.first_from.ensures ∙ c.in-Some.is)

pub returns-in-None : goal.returns-in-None
returns-in-None c = from_none c.args.copy c.args.rows.now (sym c.first_from.ensures ∙ c.in-None.is)
