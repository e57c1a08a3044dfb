use Rattle.pana_hall.proofs.Words.{IsSome, refl, sym, ◌∙◌, subst, all_listed}
use Rattle.pana_hall.proofs.Listed.{has_position, ready_for}
use Rattle.pana_hall.proofs.state.State.position_of_next.Goals as goal

pub unwrap-requires : goal.unwrap-requires
unwrap-requires c =
    let s = c.args.self.now in
    let has = has_position s.journal.entries c.args.by.now c.args.report.now (all_listed s.families.list.items) s.families.positions.items s.copies s.contents.entries.items c.requires.kept c.requires.free in
    subst IsSome (sym (c.position_for.ensures ∙ has.1)) refl

pub returns-clause-ready : goal.returns-clause-ready
returns-clause-ready c =
    let s = c.args.self.now in
    ready_for s.journal.entries c.args.by.now c.args.report.now (all_listed s.families.list.items) s.families.positions.items s.copies s.contents.entries.items c.requires.kept c.requires.free c.unwrap.result (sym c.position_for.ensures ∙ c.unwrap.ensures)
