use Rattle.std.proofs.Common.{sym, ◌∙◌}
use Rattle.pana_log.proofs.Cut.{cut_length, cut_none, cut_shut, open_test}
use Rattle.pana_log.proofs.lines.behind_line.Goals as goal

pub returns-in_err-end-clause-none : goal.returns-in_err-end-clause-none
returns-in_err-end-clause-none c _ = cut_none c.args.file.now (sym c.end_of_line.ensures ∙ c.in_err-end.was)

pub returns-then-starts_with-clause-line : goal.returns-then-starts_with-clause-line
returns-then-starts_with-clause-line c =
    cut_length c.args.file.now c.in_ok-end.end (sym c.end_of_line.ensures ∙ c.in_ok-end.was)
    (sym (open_test c.args.file.now) ∙ sym c.starts_with.ensures.value ∙ c.if-starts_with.true)

pub returns-else-starts_with-clause-none : goal.returns-else-starts_with-clause-none
returns-else-starts_with-clause-none c _ =
    cut_shut c.args.file.now c.in_ok-end.end (sym c.end_of_line.ensures ∙ c.in_ok-end.was)
    (sym (open_test c.args.file.now) ∙ sym c.starts_with.ensures.value ∙ c.if-starts_with.false)
