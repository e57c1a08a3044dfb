use Rattle.std.proofs.Common.{◌≡◌, ◌++◌, Some, option_map, sym, ap, ◌∙◌, subst, string_bytes}
use Rattle.std.specs.Prelude.{OnOk, decimal}
use Rattle.pana_commands.specs.Show.{report_of, shown_reason}
use Rattle.pana_commands.proofs.Reported.{line_report, changed_on_ok}
use Rattle.pana_commands.proofs.showing.push_report.Goals as goal

pub returns-in_ok-report-in-Some : goal.returns-in_ok-report-in-Some
returns-in_ok-report-in-Some c =
    let report : c.as_str.result.now ≡ report_of c.args.number (Some (shown_reason c.in-Some.reason)) = c.as_str.ensures.value ∙ c.in_ok-report-in-Some.ensures.ok
    ∙ line_report (decimal c.args.number) (shown_reason c.in-Some.reason) in
    let whole = report ∙ ap (λ reason. report_of c.args.number (option_map shown_reason reason)) (sym c.in-Some.is) in
    subst (λ text. OnOk c.push_str.result (string_bytes c.push_str.new.self ≡ string_bytes c.args.reports.now ++ text)) whole (changed_on_ok c.push_str.result _ _ _ c.push_str.ensures.bytes)
