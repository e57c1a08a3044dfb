use Rattle.std.proofs.lemmas.Result.{IfOk-weaker}
use Rattle.pana_hall.proofs.Decided.{decided_again, decided_gone, decided_new, decided_none}
use Rattle.pana_hall.proofs.state.State.decide.Goals as goal

pub returns-in-Some : goal.returns-in-Some
returns-in-Some c =
    IfOk-weaker c.found_again.result _ _ (λ made h. decided_again c.args.self.now.journal.entries c.args.self.now.copies c.in-Found.place c.in-Found.sum c.at.result c.in-Some.copy c.args.sighting made c.requires.accepted c.requires.spots
    c.at.ensures c.in-Some.is c.in-Found.is h) c.found_again.ensures

pub returns-in-None : goal.returns-in-None
returns-in-None c =
    IfOk-weaker c.found_new.result _ _ (λ made h. decided_new c.args.self.now.journal.entries c.args.self.now.copies c.in-Found.place c.in-Found.sum c.at.result c.args.sighting made c.requires.accepted c.requires.spots
    c.at.ensures c.in-None.is c.in-Found.is h) c.found_new.ensures

pub returns-in_ok-heir-in-Some-at : goal.returns-in_ok-heir-in-Some-at
returns-in_ok-heir-in-Some-at c =
    decided_gone c.args.self.now.journal.entries c.args.self.now.copies c.in-Missing.place c.at-in-Missing.result c.in-Some-at.copy c.args.sighting c.in_ok-heir-in-Some-at.heir c.requires.accepted c.requires.spots
    c.at-in-Missing.ensures c.in-Some-at.is c.in-Missing.is c.in_ok-heir-in-Some-at.ensures

pub returns-in-None-at : goal.returns-in-None-at
returns-in-None-at c =
    decided_none c.args.self.now.journal.entries c.args.self.now.copies c.in-Missing.place c.at-in-Missing.result c.args.sighting c.requires.accepted c.requires.spots c.at-in-Missing.ensures c.in-None-at.is c.in-Missing.is
