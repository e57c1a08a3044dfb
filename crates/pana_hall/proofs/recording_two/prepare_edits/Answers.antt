use Rattle.pana_hall.proofs.Words.{◌+◌, length, ap, subst, sym, ◌∙◌}
use Rattle.pana_hall.specs.Refusal.{with_report}
use Rattle.pana_hall.specs.{inner.Listed.IsPreparedAfter, inner.Spots.place_in}
use Rattle.pana_hall.proofs.Ready.{able_there, new_there}
use Rattle.pana_hall.proofs.Twice.{able_second, before_second, longer, new_second}
use Rattle.pana_hall.proofs.recording_two.prepare_edits.Goals as goal

pub prepare_two-requires-clause-able : goal.prepare_two-requires-clause-able
prepare_two-requires-clause-able c = able_there c.requires.ready (sym c.family_report.ensures ∙ c.unwrap.ensures)

pub prepare_two-requires-clause-new : goal.prepare_two-requires-clause-new
prepare_two-requires-clause-new c = new_there c.requires.ready c.length-entry.result c.length-entry.ensures.length

pub prepare_two-requires-clause-second_able : goal.prepare_two-requires-clause-second_able
prepare_two-requires-clause-second_able c =
    able_second _ _ _ _ c.requires.ready.accepted c.requires.two c.requires.ready.free c.requires.free c.requires.ready c.length-entry.result c.length-entry.ensures.length c.unwrap.result c.unwrap-2.result
    (sym c.family_report.ensures ∙ c.unwrap.ensures) (sym c.family_report-2.ensures ∙ c.unwrap-2.ensures)

pub prepare_two-requires-clause-second_new : goal.prepare_two-requires-clause-second_new
prepare_two-requires-clause-second_new c =
    new_second _ _ _ _ c.requires.ready.accepted c.requires.two c.requires.ready.free c.requires.free c.requires.ready c.length-entry.result c.length-entry.ensures.length c.unwrap.result (sym c.family_report.ensures ∙ c.unwrap.ensures)

pub returns-clause-second : goal.returns-clause-second
returns-clause-second c =
    let journal = c.args.journal.now.entries in
    let number = c.length-entry.ensures.length in
    let behind = c.in_ok-change.ensures.second in
    let after : IsPreparedAfter (length journal + 1) c.unwrap.result (length (with_report journal c.args.by.now c.args.first.now) + 1) c.unwrap-2.result c.in_ok-change.behind c.prepare_two.new.self =
    subst (λ n. IsPreparedAfter (length journal + 1) c.unwrap.result (n + 1) c.unwrap-2.result c.in_ok-change.behind c.prepare_two.new.self)
    (sym (longer journal c.args.by.now c.args.first.now c.args.second.now c.requires.ready.accepted c.requires.two c.requires.ready.free c.requires.free))
    (subst (λ n. IsPreparedAfter (n + 1) c.unwrap.result (n + 1 + 1) c.unwrap-2.result c.in_ok-change.behind c.prepare_two.new.self) number behind) in (
      c.unwrap.result,
      sym c.family_report.ensures ∙ c.unwrap.ensures,
      c.unwrap-2.result,
      sym c.family_report-2.ensures ∙ c.unwrap-2.ensures,
      after,
      ap place_in (sym c.requires.two.second_is),
      c.before_edit-2.ensures
          ∙ before_second journal c.args.by.now c.args.first.now c.args.second.now c.requires.ready.accepted c.requires.two c.requires.ready.free c.requires.free c.args.contents.now.entries.items (c.length-entry.result + 1 + 1) c.requires.contents,
    )
