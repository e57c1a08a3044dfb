use Rattle.pana_hall.proofs.Words.{nat_tests, arith, all_listed, ap, ◌∙◌, [], ◌∷◌, ◌++◌}
use Rattle.pana_hall.proofs.Listed.{position_few, ready_for, kept_next}
use Rattle.pana_hall.proofs.NextSaid.{said_kept}
use Rattle.pana_hall.specs.inner.Next.{next_of}
use Rattle.pana_hall.proofs.Twice.{second_next}
use Rattle.pana_hall.proofs.state.State.make.Goals as goal

pub make_step-requires-clause-ready : goal.make_step-requires-clause-ready
make_step-requires-clause-ready c =
    let next = next_of c.args.self.now.journal.entries c.args.by c.args.report c.args.effects in
    let families = c.args.self.now.families in
    ready_for c.args.self.now.journal.entries next.entry.by next.entry.report (all_listed families.list.items) families.positions.items c.args.self.now.copies c.args.self.now.contents.entries.items c.requires.kept c.requires.next.free next.position c.requires.next.position

pub kept_position-requires : goal.kept_position-requires
kept_position-requires c =
    let next = next_of c.args.self.now.journal.entries c.args.by c.args.report c.args.effects in
    let families = c.args.self.now.families in
    position_few c.args.self.now.journal.entries next.entry.by next.entry.report (all_listed families.list.items) families.positions.items c.args.self.now.copies c.args.self.now.contents.entries.items c.requires.kept c.requires.next.free next.position c.requires.next.position

pub returns-clause-records : goal.returns-clause-records
returns-clause-records c =
    let next = next_of c.args.self.now.journal.entries c.args.by c.args.report c.args.effects in
    let families = c.args.self.now.families in
    let journal = c.args.self.now.journal.entries in
    let list' = all_listed c.make_step.new.list.items in
    let copies' = c.make_step.new.copies in
    let all = kept_next journal next.entry.by next.entry.report (all_listed families.list.items) families.positions.items c.args.self.now.copies c.args.self.now.contents.entries.items c.requires.kept c.requires.next.free next.position c.requires.next.position list' copies' c.push.new.self.entries.items
    (said_kept journal next.entry c.args.self.now.contents.entries.items c.push.new.self.entries.items next.sayings c.requires.kept.accepted c.requires.next.free c.requires.next.number c.requires.kept.contents c.requires.next.sayings c.push.ensures.count c.push.ensures.at)
    c.make_step.ensures.list
    c.make_step.ensures.spots in
    grind (arith, nat_tests, c.append.ensures.number, c.push_reserved.ensures.items, c.kept_position.ensures)

pub returns-clause-behind : goal.returns-clause-behind
returns-clause-behind c = λ second behind.
    let old = c.args.self.now in
    let next = next_of c.args.self.now.journal.entries c.args.by c.args.report c.args.effects in
    let all = returns-clause-records c in
    second_next old _ next second c.requires.kept c.requires.next behind all.kept all.entries (c.push_reserved.ensures.items ∙ ap (λ p. c.args.self.now.families.positions.items ++ p ∷ []) c.kept_position.ensures)
    (record { entries = grind (arith, nat_tests, behind.room); positions = grind (arith, nat_tests, behind.room); contents = grind (arith, nat_tests, behind.room) })
    (λ lives after. c.make_step.ensures.behind second.entry lives second.step after)
