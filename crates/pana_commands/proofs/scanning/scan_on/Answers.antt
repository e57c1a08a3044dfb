use Rattle.std.proofs.Common.{Err, ap}
use Rattle.std.specs.Prelude.{Result}
use Rattle.std.proofs.lemmas.Result.{IfOk-weaker}
use Rattle.pana_scan.specs.Listing.{Contents}
use Rattle.pana_scan.specs.Scan.{IsScanned}
use Rattle.pana_scan.specs.declared.scan_fault.ScanFault.{ScanFault}
use Rattle.pana_commands.proofs.Reported.{bad_device_reported, scan_reported}
use Rattle.pana_commands.proofs.scanning.scan_on.Goals as goal

pub returns-in_default : goal.returns-in_default
returns-in_default g c =
    let scanned : Result Contents ScanFault → Type 0 =
    IsScanned g.D.Disk.is_known (g.D.Disk.tree c.args.disk.now) c.args.folder.now c.args.device.now (g.D.Disk.has_failed c.args.disk.now) (g.D.Disk.entries c.args.disk.now)
    (g.D.Disk.faults c.args.disk.now) in
    IfOk-weaker c.reported.result _ _
    (λ answer says. bad_device_reported c.args.device.now scanned answer (c.in_default.ensures.bad.0 (ap (λ fault. Err fault) c.in_default.ensures.others)) says)
    c.reported.ensures

pub returns : goal.returns
returns g c =
    let scanned : Result Contents ScanFault → Type 0 =
    IsScanned g.D.Disk.is_known (g.D.Disk.tree c.args.disk.now) c.args.folder.now c.args.device.now (g.D.Disk.has_failed c.read_root.new.disk) (g.D.Disk.entries c.read_root.new.disk)
    (g.D.Disk.faults c.read_root.new.disk) in
    let why : scanned (Err c.in-Err.fault) = record { known = c.in-Err.ensures.known; failed = c.in-Err.ensures.failed; met = c.in-Err.ensures.entries; unread = tt } in
    IfOk-weaker c.reported-in-Err.result _ _ (λ answer says. scan_reported c.args.device.now scanned c.in-Err.fault answer why says) c.reported-in-Err.ensures
