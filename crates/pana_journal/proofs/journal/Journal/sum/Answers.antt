use Rattle.std.proofs.Common.{◌≡◌, None, Some, option_copied, option_and_then, ap, sym, ◌∙◌}
use Rattle.pana_journal.specs.Entries.{Contents, entry_at}
use Rattle.pana_journal.specs.Reports.{given_sum}
use Rattle.pana_journal.specs.inner.Lines.{entry_kept, report_kept}
use Rattle.pana_journal.proofs.Lines.{none_at, some_at}
use Rattle.pana_journal.proofs.journal.Journal.sum.Goals as goal

pub returns-in_err-line : goal.returns-in_err-line
returns-in_err-line c =
    let inside = c.self.inside in
    let said : entry_at c.args.self.now.entries c.args.number ≡ None =
    ap (λ (j : Contents). entry_at j.entries c.args.number) (sym c.self.view_is)
    ∙ none_at inside.names.items inside.others.items inside.lines.items c.args.number c.as_slice.result.now (option_copied c.line_at.result) c.line_at.ensures c.as_slice.ensures.value (ap option_copied c.in_err-line.was) in
    ap option_copied c.from_residual.ensures ∙ ap (option_and_then (λ entry. given_sum entry.report)) (sym said)

pub returns : goal.returns
returns c =
    let inside = c.self.inside in
    let said : entry_at c.args.self.now.entries c.args.number ≡ Some (entry_kept inside.names.items inside.others.items c.args.number c.in_ok-line.line.now) =
    ap (λ (j : Contents). entry_at j.entries c.args.number) (sym c.self.view_is)
    ∙ some_at inside.names.items inside.others.items inside.lines.items c.args.number c.as_slice.result.now (option_copied c.line_at.result) c.line_at.ensures c.as_slice.ensures.value c.in_ok-line.line.now (ap option_copied c.in_ok-line.was) in
    c.sum_kept.ensures ∙ ap (λ l. given_sum (report_kept l c.in_ok-line.line.now.report)) c.as_slice-2.ensures.value ∙ ap (option_and_then (λ entry. given_sum entry.report)) (sym said)
