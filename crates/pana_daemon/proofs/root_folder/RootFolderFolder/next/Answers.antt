use Rattle.pana_daemon.proofs.Folders.{looks_so}
use Rattle.pana_daemon.proofs.root_folder.RootFolderFolder.next.Goals as goal

pub returns : goal.returns
returns g c =
    looks_so g.K.Disks.gives g.K.Disks.passes g.K.Given.Disk.is_known g.K.Given.Disk.tree g.K.Given.Disk.has_failed g.K.Given.Disk.entries g.K.Given.Disk.faults c.args.self.now c.await_scan.new.self _ c.await_scan.result c.read_tracked-given.result c.await_scan.ensures c.if-not-await_scan.false c.self.view_is c.if-not-self.false
    c.read_tracked-given.ensures
