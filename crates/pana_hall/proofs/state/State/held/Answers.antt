use Rattle.pana_hall.proofs.Words.{◌≡◌, Some, sym, ◌∙◌, living, said_in}
use Rattle.pana_hall.proofs.Said.{living_told, sum_told}
use Rattle.pana_hall.proofs.state.State.held.Goals as goal

pub returns : goal.returns
returns c =
    let journal = c.args.self.now.journal.entries in
    let said : said_in (living journal) c.args.copy ≡ Some c.in_ok-of.field-0 = sym (c.requires.contents.at c.args.copy) ∙ sym c.of.ensures ∙ c.in_ok-of.was in
    c.sum_by.ensures ∙ sum_told journal (living journal) c.args.copy c.in_ok-of.field-0 (living_told journal c.args.copy c.requires.accepted) said
