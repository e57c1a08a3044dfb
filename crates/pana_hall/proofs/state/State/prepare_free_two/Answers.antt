use Rattle.pana_hall.proofs.Words.{◌+◌, length, living, next_entry, ◌≡◌, List, refl, sym, ap, ◌∙◌, subst, Entry}
use Rattle.pana_hall.specs.Refusal.{with_report}
use Rattle.pana_hall.specs.inner.Next.{TakesAfter}
use Rattle.pana_hall.proofs.Twice.{entry_with, longer, next_is_accepted, next_two, second_sayings}
use Rattle.pana_hall.proofs.state.State.prepare_free_two.Goals as goal

pub returns-in-Ok-clause-behind : goal.returns-in-Ok-clause-behind
returns-in-Ok-clause-behind c =
    let journal = c.args.self.now.journal.entries in
    let by = c.args.by.now in
    let next = with_report journal by c.args.first in
    let two = c.requires.two in
    let accepted = next_is_accepted journal by c.args.first c.args.second c.requires.kept.accepted two c.requires.first c.requires.second in
    let long = longer journal by c.args.first c.args.second c.requires.kept.accepted two c.requires.first c.requires.second in
    let n_is : c.length-number.result ≡ length journal = c.length-number.ensures.length ∙ ap length c.take_steps.ensures.journal in
    let next_is : c.length-number.result + 1 ≡ length next = ap (λ k. k + 1) n_is ∙ sym long in
    next_two _ _ _ journal by c.args.first c.args.second c.take_steps.ensures.journal (c.entry_of.ensures ∙ ap (λ n. entry_with (n + 1) by c.args.first) n_is) (c.entry_of-in-Ok.ensures ∙ ap (λ n. entry_with (n + 1) by c.args.second) next_is) two
    c.requires.second refl (let room = c.in-Ok.ensures.room in record { entries = room.entries; positions = room.positions; contents = room.contents })
    (λ said are. second_sayings next by c.args.second two.b two.second_sum two.second_is accepted c.requires.second (c.length-number.result + 1) next_is said c.edit_sayings-later.result are c.edit_sayings-later.ensures.written
    c.edit_sayings-later.ensures.first c.edit_sayings-later.ensures.second)
    (subst (λ (j : List Entry). TakesAfter (next_entry j by c.args.first) (next_entry (with_report j by c.args.first) by c.args.second) c.take_steps.new.self.families.list.items c.in-Ok.position (living (with_report j by c.args.first)) c.in-Ok.behind)
    c.take_steps.ensures.journal c.in-Ok.ensures.behind)
