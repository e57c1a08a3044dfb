use Rattle.std.proofs.Common.{[], refl}
use Rattle.pana_calls.specs.declared.call.Call.TheVariants as calls
use Rattle.pana_calls.specs.declared.call.Query.TheVariants as queries
use Rattle.pana_commands.proofs.status.total_of.Goals as goal

pub returns-in_err-answer-clause-fails : goal.returns-in_err-answer-clause-fails
returns-in_err-answer-clause-fails g c = λ _.
    record { made = []; mid = c.args.session.now; by = c.args.by.now; call = calls.Query queries.Counts; calls = refl; failed = c.in_err-answer.ensures.fails }
