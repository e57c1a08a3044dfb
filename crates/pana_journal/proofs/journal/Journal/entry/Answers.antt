use Rattle.std.proofs.Common.{◌≡◌, [], None, Some, option_copied, get_or, ap, sym, ◌∙◌}
use Rattle.std.specs.Cow.{cow_value}
use Rattle.pana_journal.specs.Entries.{Contents, entry_at}
use Rattle.pana_journal.specs.inner.Lines.{entry_kept, report_kept}
use Rattle.pana_journal.proofs.Kept.{read_there}
use Rattle.pana_journal.proofs.Lines.{none_at, some_at, there_at}
use Rattle.pana_journal.proofs.journal.Journal.entry.Goals as goal

pub returns-in_err-line : goal.returns-in_err-line
returns-in_err-line c =
    let inside = c.self.inside in
    let said : entry_at c.args.self.now.entries c.args.number ≡ None =
    ap (λ (j : Contents). entry_at j.entries c.args.number) (sym c.self.view_is)
    ∙ none_at inside.names.items inside.others.items inside.lines.items c.args.number c.as_slice.result.now (option_copied c.line_at.result) c.line_at.ensures c.as_slice.ensures.value (ap option_copied c.in_err-line.was) in
    c.from_residual.ensures ∙ sym said

pub returns : goal.returns
returns c =
    let inside = c.self.inside in
    let said : entry_at c.args.self.now.entries c.args.number ≡ Some (entry_kept inside.names.items inside.others.items c.args.number c.in_ok-line.line.now) =
    ap (λ (j : Contents). entry_at j.entries c.args.number) (sym c.self.view_is)
    ∙ some_at inside.names.items inside.others.items inside.lines.items c.args.number c.as_slice.result.now (option_copied c.line_at.result) c.line_at.ensures c.as_slice.ensures.value c.in_ok-line.line.now (ap option_copied c.in_ok-line.was) in
    let there = there_at inside.names.items inside.others.items inside.lines.items c.args.number c.as_slice.result.now (option_copied c.line_at.result) c.line_at.ensures c.as_slice.ensures.value c.in_ok-line.line.now (ap option_copied c.in_ok-line.was) c.self.invariant.0 in
    let by = read_there inside.names.items c.in_ok-line.line.now.by c.index.result.now [] there.0 c.index.ensures in
    let report = c.report_kept-report.ensures ∙ ap (λ l. report_kept l c.in_ok-line.line.now.report) c.as_slice-2.ensures.value in
    ap Some c.new.ensures
    ∙ ap (λ b. Some (record { number = c.args.number; by = b; report = cow_value c.report_kept-report.result })) by
    ∙ ap (λ r. Some (record { number = c.args.number; by = get_or inside.names.items c.in_ok-line.line.now.by []; report = r })) report
    ∙ sym said
