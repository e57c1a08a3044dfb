use Rattle.pana_daemon.proofs.Scans.{on_err, own_stops, tracks_none}
use Rattle.pana_daemon.proofs.scanning.take_root.Goals as goal

pub returns-in_err-track_folder-clause-fails : goal.returns-in_err-track_folder-clause-fails
returns-in_err-track_folder-clause-fails g c =
    on_err c.from_residual.result _
    (own_stops g.S.Session.step c.args.device.now g.S.Session.keeps_together g.S.Session.fails c.args.given.now c.args.session.now c.track_folder.new.session c.is_own.result c.if-not-is_own.false c.is_own.ensures c.in_err-track_folder.ensures.fails)

pub returns-then-not-is_own-clause-ok : goal.returns-then-not-is_own-clause-ok
returns-then-not-is_own-clause-ok g c = tracks_none g.S.Session.step c.args.device.now g.S.Session.keeps_together c.args.given.now c.args.session.now c.is_own.result c.if-not-is_own.true c.is_own.ensures
