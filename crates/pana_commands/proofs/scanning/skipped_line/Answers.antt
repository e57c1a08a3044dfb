use Rattle.std.proofs.Common.{◌∙◌}
use Rattle.std.proofs.lemmas.Result.{IfOk-weaker}
use Rattle.pana_commands.proofs.Reported.{skipped_report}
use Rattle.pana_commands.proofs.scanning.skipped_line.Goals as goal

pub returns : goal.returns
returns c = IfOk-weaker c.format.result _ _ (λ line is. is ∙ skipped_report c.args.skipped c.if-skipped-eq0.false) c.format.ensures.ok
