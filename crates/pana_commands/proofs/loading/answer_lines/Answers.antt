use Rattle.std.proofs.Common.{List, MatchResult, subst}
use Rattle.std.proofs.lemmas.Result.{IfOk-weaker}
use Rattle.pana_journal.specs.declared.entry.Entry.{Entry}
use Rattle.pana_wire.specs.DumpLines.{Say, HasFault}
use Rattle.pana_wire.specs.Lines.{texts}
use Rattle.pana_commands.specs.inner.Taken.{HasTaken}
use Rattle.pana_commands.proofs.Reported.{line_reported}
use Rattle.pana_commands.proofs.loading.answer_lines.Goals as goal

pub returns-in-Err : goal.returns-in-Err
returns-in-Err c =
    let lines = texts c.args.lines.now in
    let has = subst (λ read. MatchResult read (λ taken. (entries : List Entry) × Say lines entries × HasTaken entries taken) (HasFault lines)) c.in-Err.is c.in_ok-taken.ensures in
    IfOk-weaker c.reported.result _ _ (λ answer says. line_reported c.args.terminal lines c.in-Err.fault answer has says) c.reported.ensures
