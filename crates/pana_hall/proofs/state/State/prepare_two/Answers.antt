use Rattle.pana_hall.proofs.Words.{inr, inl, arith, refl}
use Rattle.pana_hall.proofs.Twice.{both_free, both_full, first_free, second_free}
use Rattle.pana_hall.proofs.state.State.prepare_two.Goals as goal

pub returns-then-length-gt-MOST_ENTRIES-clause-refused : goal.returns-then-length-gt-MOST_ENTRIES-clause-refused
returns-then-length-gt-MOST_ENTRIES-clause-refused c =
    inl (both_full c.args.self.now.journal.entries c.args.by.now c.args.first c.args.second c.requires.kept.accepted c.requires.two (omega (arith, c.length.ensures.length)))

pub prepare_free_two-requires-clause-first : goal.prepare_free_two-requires-clause-first
prepare_free_two-requires-clause-first c = first_free c.args.self.now.journal.entries c.args.by.now c.args.first c.args.second c.requires.kept.accepted c.requires.two (omega (arith, c.length.ensures.length))

pub prepare_free_two-requires-clause-second : goal.prepare_free_two-requires-clause-second
prepare_free_two-requires-clause-second c = second_free c.args.self.now.journal.entries c.args.by.now c.args.first c.args.second c.requires.kept.accepted c.requires.two (omega (arith, c.length.ensures.length))

pub returns-in-Ok-clause-free : goal.returns-in-Ok-clause-free
returns-in-Ok-clause-free c = both_free c.args.self.now.journal.entries c.args.by.now c.args.first c.args.second c.requires.kept.accepted c.requires.two (omega (arith, c.length.ensures.length))

pub returns-in-Err-clause-refused : goal.returns-in-Err-clause-refused
returns-in-Err-clause-refused c =
    inr (both_free c.args.self.now.journal.entries c.args.by.now c.args.first c.args.second c.requires.kept.accepted c.requires.two (omega (arith, c.length.ensures.length)), refl)
