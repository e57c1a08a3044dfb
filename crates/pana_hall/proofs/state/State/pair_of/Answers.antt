use Rattle.pana_hall.proofs.Words.{arith, nat_tests, refl, ap, ◌∙◌, set_in, families, living, known_to, sets_at}
use Rattle.pana_family.specs.Relation.{relation}
use Rattle.pana_hall.proofs.Listed.{found_entry}
use Rattle.pana_hall.proofs.Answered.{lives_of, pair_at, set_of_copy, stands_of}
use Rattle.pana_hall.proofs.state.State.pair_of.Goals as goal

pub family-requires-clause-has : goal.family-requires-clause-has
family-requires-clause-has c = grind (arith, nat_tests, pair_at, found_entry, c.requires.kept.accepted, c.requires.free)

pub rel-requires-clause-first : goal.rel-requires-clause-first
rel-requires-clause-first c =
    let pair = pair_at c.args.self.now.journal.entries c.args.a c.args.b c.requires.kept.accepted c.requires.free in
    lives_of c.args.self.now.journal.entries (families c.args.self.now.journal.entries c.args.a) c.args.a pair.first _ c.requires.kept.accepted c.family.ensures pair.found_first refl

pub rel-requires-clause-second : goal.rel-requires-clause-second
rel-requires-clause-second c =
    let pair = pair_at c.args.self.now.journal.entries c.args.a c.args.b c.requires.kept.accepted c.requires.free in
    lives_of c.args.self.now.journal.entries (families c.args.self.now.journal.entries c.args.a) c.args.b pair.second _ c.requires.kept.accepted c.family.ensures pair.found_second pair.of

pub returns : goal.returns
returns c =
    let journal = c.args.self.now.journal.entries in
    let pair = pair_at journal c.args.a c.args.b c.requires.kept.accepted c.requires.free in
    let family = families journal c.args.a in
    c.rel.ensures (sets_at 0 family journal) (stands_of journal family _ c.requires.kept.accepted c.family.ensures)
    ∙ ap (λ s. relation s (set_in (sets_at 0 family journal) c.args.b)) (set_of_copy journal family c.args.a pair.first c.requires.kept.accepted pair.found_first refl)
    ∙ ap (relation (known_to (living journal) c.args.a)) (set_of_copy journal family c.args.b pair.second c.requires.kept.accepted pair.found_second pair.of)
