-- The part is kept, and the rest as this function keeps it.
use Rattle.std.proofs.Common.{◌∙◌, ap, ◌++◌}
use Rattle.std.proofs.lemmas.List.{take-append-drop}
use Rattle.std.proofs.lemmas.Result.{on_ok_weaker}
use Rattle.pana_transfer.proofs.Kept.{kept_behind}
use Rattle.pana_transfer.proofs.transferring.+keep_all.Goals as goal

pub returns-in-Ok-clause-ok : goal.returns-in-Ok-clause-ok
returns-in-Ok-clause-ok g t c = on_ok_weaker c.keep_all.result
    (kept_behind g.S.Session.step g.S.Session.settles _ _ _ _ _ _ _ (rw (c.split_at.ensures.front, c.split_at.ensures.back) (take-append-drop _ c.args.entries.now))
    c.in_ok-remake_all.ensures.ok c.in-Ok.ensures.settles)
    c.keep_all.ensures.ok
