use Rattle.std.proofs.Common.{rules}
use Rattle.pana_scan.proofs.Looked.{one_looks}
use Rattle.pana_scan.proofs.looking.look_by_one.Goals as goal

pub returns : goal.returns
returns g c =
    let made = c.in_ok-rows.ensures in
    one_looks g.D.Disk.is_known g.D.Disk.tree g.D.Disk.faults c.args.root.now c.args.files.items c.args.disks.items c.pop.new.self.items c.in-Some.disk c.look_at.new.disk
    c.in_ok-rows.rows.items c.push.new.self.items (search rules) (search rules) made.paths made.known made.faults
