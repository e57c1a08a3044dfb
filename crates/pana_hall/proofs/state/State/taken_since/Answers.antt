use Rattle.pana_hall.proofs.Words.{arith, nat_tests, ◌≡◌, Some, None, option_copied, sym, ap, ◌∙◌, subst, Place, entry_at, IsThere, other_there, displaced}
use Rattle.pana_hall.proofs.{Listed.entry_within, Answered.back_place, Answered.taken_from_is}
use Rattle.pana_hall.proofs.state.State.taken_since.Goals as goal

pub family-requires-clause-has : goal.family-requires-clause-has
family-requires-clause-has c = grind (arith, nat_tests, entry_within, c.entry.ensures)

pub returns-in_err-last_place : goal.returns-in_err-last_place
returns-in_err-last_place c =
    let at : entry_at c.args.self.now.journal.entries c.args.number ≡ Some c.in_ok-entry.entry = sym c.entry.ensures ∙ c.in_ok-entry.was in
    let back = back_place c.args.self.now.journal.entries c.args.number c.in_ok-copy.copy _ _ c.requires.kept.accepted c.requires.last at (ap displaced (sym c.report.ensures) ∙ sym c.displaced.ensures ∙ c.in_ok-copy.was) c.family.ensures in
    let odd : None ≡ Some back.0.place = sym (sym c.last_place.ensures ∙ ap option_copied c.in_err-last_place.was) ∙ back.1 in
    absurd (cc)

pub returns : goal.returns
returns c =
    let journal = c.args.self.now.journal.entries in
    let at : entry_at journal c.args.number ≡ Some c.in_ok-entry.entry = sym c.entry.ensures ∙ c.in_ok-entry.was in
    let back = back_place journal c.args.number c.in_ok-copy.copy _ _ c.requires.kept.accepted c.requires.last at (ap displaced (sym c.report.ensures) ∙ sym c.displaced.ensures ∙ c.in_ok-copy.was) c.family.ensures in
    let both : Some c.in_ok-last_place.field-0.now ≡ Some back.0.place = sym (sym c.last_place.ensures ∙ ap option_copied c.in_ok-last_place.was) ∙ back.1 in
    let same : c.in_ok-last_place.field-0.now ≡ back.0.place = cc in
    let found = c.taken_from.ensures in
    found.2
    ∙ ap (λ n. other_there n found.0) (sym back.3)
    ∙ taken_from_is journal c.args.self.now.copies back.0 found.0 c.requires.kept.accepted c.requires.kept.spots (subst (λ (p : Place). IsThere c.args.self.now.copies p found.0) same found.1)
    ∙ sym back.2
