use Rattle.std.proofs.Common.{subst}
use Rattle.std.proofs.lemmas.Result.{IfOk-weaker}
use Rattle.pana_commands.specs.inner.Taken.{HasTaken}
use Rattle.pana_commands.proofs.Reported.{load_reported}
use Rattle.pana_commands.proofs.loading.answer_taken.Goals as goal

pub returns-in-Stopped : goal.returns-in-Stopped
returns-in-Stopped c = IfOk-weaker c.reported.result _ _ (λ answer says entries taken. load_reported c.args.terminal entries c.in-Stopped.fault answer (subst (HasTaken entries) c.in-Stopped.is taken) says) c.reported.ensures
