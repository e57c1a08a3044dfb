use Rattle.pana_shared_store.proofs.Followed.{looks_none}
use Rattle.pana_shared_store.proofs.asking.look.Goals as goal

pub returns-then-not-is_due-clause-looks : goal.returns-then-not-is_due-clause-looks
returns-then-not-is_due-clause-looks g c = looks_none g.L.SharedLog.is_known c.args.hall.now _ c.requires.first
