use Rattle.std.proofs.lemmas.Result.{IfOk-weaker}
use Rattle.pana_scan.specs.inner.Look.{AreLookedAt, AreMerged}
use Rattle.pana_scan.proofs.Looked.{both_look}
use Rattle.pana_scan.proofs.looking.+looks.Goals as goal

pub returns : goal.returns
returns g t c =
    let cut = c.in-Ok.ensures in
    let root = c.args.root.now in
    IfOk-weaker c.merged.result (AreMerged c.join-one.result.0 c.join-one.result.1) (λ all. AreLookedAt g.D.Disk.is_known g.D.Disk.tree g.D.Disk.faults root c.args.files.items c.args.disks.items all.rows.items all.disks.items)
    (λ all merged. both_look g.D.Disk.is_known g.D.Disk.tree g.D.Disk.faults root c.args.files.items c.in-Ok-deal.parts.0.items c.in-Ok-deal.parts.1.items _ c.args.disks.items c.split_off.new.self.items c.in-Ok.more.items
    c.join-one.result.0 c.join-one.result.1 all c.in-Ok-deal.ensures cut.items cut.tail c.join-one.ensures.first c.join-one.ensures.second merged)
    c.merged.ensures
