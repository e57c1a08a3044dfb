use Rattle.std.proofs.Common.{refl, subst, sym}
use Rattle.pana_daemon.specs.declared.folder.Look.{Look}
use Rattle.pana_daemon.specs.Scan.{StopsLook}
use Rattle.pana_daemon.proofs.Scans.{on_err, on_err_then, scan_stops_look, tracking_stops_look}
use Rattle.pana_daemon.proofs.scanning.take.Goals as goal

pub returns-in_err-take_scan-in-Scanned-clause-fails : goal.returns-in_err-take_scan-in-Scanned-clause-fails
returns-in_err-take_scan-in-Scanned-clause-fails g c =
    on_err c.from_residual.result _
    (subst (λ (look : Look). StopsLook g.S.Session.step c.args.device.now g.S.Session.keeps_together g.S.Session.fails look c.args.session.now c.take_scan.new.session c.args.baseline.now c.take_scan.new.baseline) (sym c.in-Scanned.is)
    (scan_stops_look g.S.Session.step c.args.device.now g.S.Session.keeps_together g.S.Session.fails c.in-Scanned.given c.args.session.now c.take_scan.new.session c.args.baseline.now c.take_scan.new.baseline c.in_err-take_scan-in-Scanned.ensures.fails))

pub returns-in-Tracked-clause-fails : goal.returns-in-Tracked-clause-fails
returns-in-Tracked-clause-fails g c =
    on_err_then c.take_root.result _ _
    (λ stops. subst (λ (look : Look). StopsLook g.S.Session.step c.args.device.now g.S.Session.keeps_together g.S.Session.fails look c.args.session.now c.take_root.new.session c.args.baseline.now c.args.baseline.now) (sym c.in-Tracked.is)
    (tracking_stops_look g.S.Session.step c.args.device.now g.S.Session.keeps_together g.S.Session.fails c.in-Tracked.given c.args.session.now c.take_root.new.session c.args.baseline.now c.args.baseline.now stops refl)) c.take_root.ensures.fails
