use Rattle.pana_hall.proofs.Words.{IsSome, option_map, option_and_then, refl, sym, ap, ◌∙◌, subst, copy_in, living}
use Rattle.pana_hall.specs.Status.{standing_of}
use Rattle.pana_hall.proofs.{Ready.at_spots, Related.there_is}
use Rattle.pana_hall.proofs.state.State.standing_at.Goals as goal

pub standing_of-requires-clause-lives : goal.standing_of-requires-clause-lives
standing_of-requires-clause-lives c =
    let there = at_spots c.args.self.now.journal.entries c.args.self.now.copies c.requires.spots c.in-Some.copy c.args.place.now ((c.at.ensures c.in-Some.copy).0 c.in-Some.is) in
    subst IsSome (sym there.1) refl

pub returns-in_ok-standing_of-in-Some : goal.returns-in_ok-standing_of-in-Some
returns-in_ok-standing_of-in-Some c =
    let journal = c.args.self.now.journal.entries in
    sym (ap (option_map (standing_of (living journal)))
    (there_is journal c.args.self.now.copies c.args.place.now c.at.result c.requires.accepted c.requires.spots c.at.ensures ∙ ap (option_and_then (copy_in (living journal))) c.in-Some.is)
    ∙ c.in_ok-standing_of-in-Some.ensures)

pub returns-in-None : goal.returns-in-None
returns-in-None c =
    let journal = c.args.self.now.journal.entries in
    sym (ap (option_map (standing_of (living journal)))
    (there_is journal c.args.self.now.copies c.args.place.now c.at.result c.requires.accepted c.requires.spots c.at.ensures ∙ ap (option_and_then (copy_in (living journal))) c.in-None.is))
