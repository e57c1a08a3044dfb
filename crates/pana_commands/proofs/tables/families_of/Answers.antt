use Rattle.std.proofs.Common.{◌∙◌}
use Rattle.pana_calls.specs.declared.call.Query.TheVariants as queries
use Rattle.pana_commands.proofs.Asked.{asked, families_asked}
use Rattle.pana_commands.proofs.tables.families_of.Goals as goal

pub returns-in-Some-clause-rows : goal.returns-in-Some-clause-rows
returns-in-Some-clause-rows c = families_asked c.args.hall.now c.args.by.now c.in-Some.rows (rw c.in-Some.ensures.reply at c.apply-reply.ensures.permitted)

pub returns-in-Some-clause-hall : goal.returns-in-Some-clause-hall
returns-in-Some-clause-hall c = c.apply-reply.ensures.journal ∙ asked c.args.hall.now c.args.by.now queries.Families c.apply-reply.result

pub returns-in-None-clause-hall : goal.returns-in-None-clause-hall
returns-in-None-clause-hall c = c.apply-reply.ensures.journal ∙ asked c.args.hall.now c.args.by.now queries.Families c.apply-reply.result
