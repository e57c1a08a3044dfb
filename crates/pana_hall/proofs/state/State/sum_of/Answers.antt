use Rattle.pana_hall.proofs.Words.{◌≡◌, Some, None, option_copied, sym, ap, ◌∙◌, living, said_in}
use Rattle.pana_hall.proofs.Said.{living_told, sum_told, sum_at}
use Rattle.pana_hall.proofs.state.State.sum_of.Goals as goal

pub returns-in_ok-copy_of-in-Some-sum_by : goal.returns-in_ok-copy_of-in-Some-sum_by
returns-in_ok-copy_of-in-Some-sum_by c =
    let journal = c.args.self.now.journal.entries in
    let said : said_in (living journal) c.args.number ≡ Some c.in-Some.entry = sym (c.requires.contents.at c.args.number) ∙ sym c.of.ensures ∙ c.in-Some.is in
    let sum : sum_at journal c.in-Some.entry ≡ Some c.in-Some-sum_by.sum.now = sym c.sum_by.ensures ∙ ap option_copied c.in-Some-sum_by.is in
    ap (λ s. Some s) c.in_ok-copy_of-in-Some-sum_by.ensures ∙ sym sum ∙ sum_told journal (living journal) c.args.number c.in-Some.entry (living_told journal c.args.number c.requires.accepted) said

pub returns-in-None : goal.returns-in-None
returns-in-None c =
    let journal = c.args.self.now.journal.entries in
    let said : said_in (living journal) c.args.number ≡ Some c.in-Some.entry = sym (c.requires.contents.at c.args.number) ∙ sym c.of.ensures ∙ c.in-Some.is in
    let none : sum_at journal c.in-Some.entry ≡ None = sym c.sum_by.ensures ∙ ap option_copied c.in-None.is in
    sym none ∙ sum_told journal (living journal) c.args.number c.in-Some.entry (living_told journal c.args.number c.requires.accepted) said
