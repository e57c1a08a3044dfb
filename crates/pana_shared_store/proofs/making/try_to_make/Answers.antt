use Rattle.std.proofs.Common.{List, sym, ap, subst, ◌∙◌}
use Rattle.pana_journal.specs.declared.entry.Entry.{Entry}
use Rattle.pana_hall.specs.Permit.{Permits, journal_after}
use Rattle.pana_hall.specs.Prepared.{Prepares}
use Rattle.std.proofs.lemmas.Result.{on_err_weaker, IfOk-weaker}
use Rattle.pana_shared_store.specs.inner.{IsReady, TriesNone, TriesTo}
use Rattle.pana_shared_store.proofs.Followed.{reads_none}
use Rattle.pana_shared_store.proofs.making.try_to_make.Goals as goal

pub put-requires-clause-ready : goal.put-requires-clause-ready
put-requires-clause-ready g c known = subst (λ (l : List Entry). IsReady c.args.turn l (g.L.SharedLog.seen c.args.log.now)) (sym (c.in-Ok.ensures.ok.journal ∙ c.take_all.ensures.taken)) (c.requires.ready known)

pub returns-in-Err-clause-ok : goal.returns-in-Err-clause-ok
returns-in-Err-clause-ok g c =
    let here = c.put_into.ensures ∙ c.in-Err.ensures.hall ∙ c.take_all.ensures.taken in
    let reply = c.in-Err.ensures.reply in (
      here,
      (
        subst (λ (l : List Entry). Permits l c.args.by.now c.args.call c.in-Err.field-0.reply) c.take_all.ensures.taken reply.permitted,
        c.put_into.ensures ∙ c.in-Err.ensures.hall ∙ sym reply.same ∙ ap (λ (l : List Entry). journal_after l c.args.by.now c.args.call c.in-Err.field-0.reply) c.take_all.ensures.taken,
      ),
      λ known. reads_none _,
    )

pub returns-in-Ok-clause-ok : goal.returns-in-Ok-clause-ok
returns-in-Ok-clause-ok g c =
    let here = c.in-Ok.ensures.ok.journal ∙ c.take_all.ensures.taken in
    let prepares = subst (λ (l : List Entry). Prepares l c.args.by.now c.args.call c.in-Ok.prepared) (sym c.in-Ok.ensures.ok.journal) c.in-Ok.ensures.ok in
    IfOk-weaker c.put.result _ _
    (λ tried made. subst (λ (l : List Entry). TriesTo g.L.SharedLog.is_known c.args.turn l (g.L.SharedLog.seen c.args.log.now) c.args.by.now c.args.call tried c.put.new.hall (g.L.SharedLog.seen c.put.new.log)) here
    (made c.args.by.now c.args.call prepares))
    c.put.ensures.ok

pub returns-in-Ok-clause-err : goal.returns-in-Ok-clause-err
returns-in-Ok-clause-err g c =
    let here = c.in-Ok.ensures.ok.journal ∙ c.take_all.ensures.taken in
    on_err_weaker c.put.result
    (λ none. subst (λ (l : List Entry). TriesNone g.L.SharedLog.is_known c.args.turn l (g.L.SharedLog.seen c.args.log.now) c.args.by.now c.args.call c.put.new.hall (g.L.SharedLog.seen c.put.new.log)) here
    (none c.args.by.now c.args.call (subst (λ (l : List Entry). Prepares l c.args.by.now c.args.call c.in-Ok.prepared) (sym c.in-Ok.ensures.ok.journal) c.in-Ok.ensures.ok)))
    c.put.ensures.err
