use Rattle.pana_hall.proofs.Words.{arith, nat_tests, ap, ◌∙◌, families}
use Rattle.pana_hall.specs.inner.Relatives.{first_number, replaces}
use Rattle.pana_hall.proofs.{Answered.stands_of, Listed.found_entry, Related.has_copy, Shown.newest_is}
use Rattle.pana_hall.proofs.state.State.replacement.Goals as goal

pub family-requires-clause-has : goal.family-requires-clause-has
family-requires-clause-has c = let copy = has_copy _ c.requires.lives in grind (arith, nat_tests, found_entry, c.requires.kept.accepted)

pub returns : goal.returns
returns c =
    let journal = c.args.self.now.journal.entries in
    let family = families journal c.args.copy in
    let stands = stands_of journal family _ c.requires.kept.accepted c.family.ensures in
    c.first_newest.ensures
    ∙ ap (λ l. first_number (replaces l c.args.copy) c.args.relatives.now) (c.as_slice.ensures ∙ c.in_ok-board.ensures.newest _ stands ∙ newest_is journal family c.requires.kept.accepted)
