use Rattle.std.proofs.Common.{◌∙◌, List, sym, subst}
use Rattle.pana_journal.specs.declared.entry.Entry.{Entry}
use Rattle.pana_shared_store.specs.inner.{IsStore}
use Rattle.pana_shared_store.proofs.Readied.{store_looked}
use Rattle.pana_shared_store.proofs.Tried.{asked_made, asks_nothing}
use Rattle.pana_shared_store.proofs.asking.ask.Goals as goal

pub returns-in-Err-clause-store : goal.returns-in-Err-clause-store
returns-in-Err-clause-store g c known =
    store_looked c.args.turn c.args.hall.now c.look.new.hall (g.L.SharedLog.seen c.args.log.now) (g.L.SharedLog.seen c.look.new.log) (c.requires.store known) (c.look.ensures.looks.reads known) c.look.ensures.looks.goes_on (c.look.ensures.looks.first known)

pub returns-in-Ok-clause-store : goal.returns-in-Ok-clause-store
returns-in-Ok-clause-store g c known =
    subst (λ (l : List Entry). IsStore l c.args.turn (g.L.SharedLog.seen c.look.new.log)) (sym (c.apply.ensures.journal ∙ asks_nothing _ _ _ _))
    (store_looked c.args.turn c.args.hall.now c.look.new.hall (g.L.SharedLog.seen c.args.log.now) (g.L.SharedLog.seen c.look.new.log) (c.requires.store known) (c.look.ensures.looks.reads known) c.look.ensures.looks.goes_on (c.look.ensures.looks.first known))

pub returns-in-Ok-clause-ok : goal.returns-in-Ok-clause-ok
returns-in-Ok-clause-ok g c = asked_made g.L.SharedLog.is_known c.args.is_stale c.args.turn c.args.hall.now c.look.new.hall c.apply.new.self (g.L.SharedLog.seen c.args.log.now) (g.L.SharedLog.seen c.look.new.log) c.args.by.now c.args.query c.apply.result
    c.look.ensures.looks c.in-Ok.ensures.all c.apply.ensures.permitted c.apply.ensures.journal
