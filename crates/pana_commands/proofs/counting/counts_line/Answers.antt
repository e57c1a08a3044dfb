use Rattle.std.proofs.Common.{ap, ◌∙◌}
use Rattle.std.proofs.lemmas.Result.{IfOk-weaker}
use Rattle.pana_commands.specs.Counts.{number_text}
use Rattle.pana_commands.proofs.Grouped.{counts_pieces}
use Rattle.pana_commands.proofs.counting.counts_line.Goals as goal

pub returns : goal.returns
returns c = IfOk-weaker c.format.result _ _
    (λ text is. is ∙ counts_pieces c.args.total c.args.rows.now c.as_str.result.now c.as_str-2.result.now c.as_str-3.result.now (c.as_str.ensures.value ∙ c.in_ok-before.ensures)
    (c.as_str-2.ensures.value ∙ c.in_ok-obsolete.ensures ∙ ap number_text c.obsolete_of.ensures)
    (c.as_str-3.ensures.value ∙ c.in_ok-conflicts.ensures ∙ ap number_text c.in_conflict_of.ensures))
    c.format.ensures.ok
