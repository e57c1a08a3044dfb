use Rattle.std.proofs.Common.{arith, string_bytes}
use Rattle.pana_commands.proofs.Reported.{next_taken}
use Rattle.pana_commands.proofs.showing.take_lines.Goals as goal

pub loop-index-preserved : goal.loop-index-preserved
loop-index-preserved c =
    next_taken c.args.lines.now c.loop-index.index _ c.args.hall.now c.loop-index.hall _ (string_bytes c.loop-index.reports) _ _ (omega arith) c.loop-index.invariant c.take_line-reason.ensures c.in_ok-push_report.ensures
