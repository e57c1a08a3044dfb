use Rattle.pana_hall.proofs.Words.{arith, nat_tests, option_copied, sym, ap, ◌∙◌}
use Rattle.pana_hall.proofs.Histories.{history_first, history_none}
use Rattle.pana_hall.proofs.kept_family.KeptFamily.ends_in.Goals as goal

pub returns-in-Some : goal.returns-in-Some
returns-in-Some c = grind (arith, nat_tests, c.self.view_is, history_first c.self.inside.family.rows c.self.inside.undo.items c.in-Some.last.now (sym c.front.ensures ∙ ap option_copied c.in-Some.is))

pub returns-in-None : goal.returns-in-None
returns-in-None c = grind (arith, nat_tests, history_none, c.self.view_is, c.front.ensures, c.in-None.is)
