use Rattle.pana_hall.proofs.Words.{arith, nat_tests, option_copied, sym, ap, ◌∙◌}
use Rattle.pana_hall.proofs.Histories.{history_first, history_none}
use Rattle.pana_hall.proofs.kept_family.KeptFamily.last_said.Goals as goal

pub returns-in-Some-clause-first : goal.returns-in-Some-clause-first
returns-in-Some-clause-first c = grind (arith, nat_tests, c.self.view_is, history_first c.self.inside.family.rows c.self.inside.undo.items c.in-Some.undo.now (sym c.front.ensures ∙ ap option_copied c.in-Some.is))

pub returns-in-Some-clause-second : goal.returns-in-Some-clause-second
returns-in-Some-clause-second c = grind (arith, nat_tests, c.self.view_is, history_first c.self.inside.family.rows c.self.inside.undo.items c.in-Some.undo.now (sym c.front.ensures ∙ ap option_copied c.in-Some.is))

pub returns-in-None-clause-first : goal.returns-in-None-clause-first
returns-in-None-clause-first c = grind (arith, nat_tests, history_none, c.self.view_is, c.front.ensures, c.in-None.is)

pub returns-in-None-clause-second : goal.returns-in-None-clause-second
returns-in-None-clause-second c = grind (arith, nat_tests, history_none, c.self.view_is, c.front.ensures, c.in-None.is)
