use Rattle.std.proofs.Common.{List, [], sym, subst, ◌∙◌, append-nil}
use Rattle.pana_journal.specs.declared.entry.Entry.{Entry}
use Rattle.pana_calls.specs.declared.call.Call.{Call}
use Rattle.pana_hall.specs.Prepared.{AnswersAt}
use Rattle.pana_shared_store.proofs.gathering.gather_one.Goals as goal

pub returns-in-Err : goal.returns-in-Err
returns-in-Err c =
    let here = c.put_into.ensures ∙ c.in-Err.ensures.hall ∙ c.take_all.ensures.taken in
    let answers = subst (λ (k : Call). AnswersAt c.args.hall.now c.args.message.now.by k c.in-Err.field-0.reply) c.in-Ok.ensures
    (subst (λ (l : List Entry). AnswersAt l c.args.message.now.by c.in-Ok.call c.in-Err.field-0.reply) c.take_all.ensures.taken c.in-Err.ensures.reply) in
    ([], here ∙ sym (append-nil c.args.hall.now), (answers.permitted, here ∙ sym answers.same), sym (append-nil c.args.group.now.items))
