use Rattle.pana_shared_store.proofs.Tried.{made_behind}
use Rattle.pana_shared_store.proofs.store.answer.Goals as goal

pub returns-in_default-clause-ok : goal.returns-in_default-clause-ok
returns-in_default-clause-ok g c = made_behind g.L.SharedLog.is_known c.args.is_stale c.args.turn.now c.make_next-made.new.turn c.args.hall.now c.make_next-made.new.hall (g.L.SharedLog.seen c.args.log.now) (g.L.SharedLog.seen c.make_next-made.new.log) c.args.by.now c.args.call c.make_next-made.result c.make_next-made.ensures.ok
