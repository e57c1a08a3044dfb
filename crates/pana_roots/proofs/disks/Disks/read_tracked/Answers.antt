use Rattle.pana_roots.specs.Root.{folder_at}
use Rattle.pana_roots.proofs.Readings.{read_of}
use Rattle.pana_roots.proofs.disks.Disks.read_tracked.Goals as goal

pub returns : goal.returns
returns g c =
    read_of g.Self.Disks.gives g.Self.Disks.passes g.Self.Given.Disk.is_known g.Self.Given.Disk.tree g.Self.Given.Disk.has_failed g.Self.Given.Disk.entries g.Self.Given.Disk.faults (folder_at c.args.self.now c.args.root.now) c.disk-first.result c.disk-disk.result _ c.read_tracked-given.result
    c.disk-first.ensures.gives c.disk-disk.ensures.gives c.read_tracked-given.ensures.known c.read_tracked-given.ensures.behind c.read_tracked-given.ensures.device c.passed_over.ensures
