use Rattle.std.proofs.Common.{◌≡◌, ◌+◌, ◌-◌, ◌≤◌, IsTrue, false, length}
use Rattle.pana_scan.specs.Names.{whole_text}
use Rattle.pana_scan.proofs.Kept.{IsListing}
use Rattle.pana_scan.proofs.folder.read_folder.Given as goal

abbrev pub invariant-loop-entry : goal.invariant-loop-entry
invariant-loop-entry g l = record {
  known :
      IsTrue g.D.Disk.is_known →
      IsListing l.fn.folder.path (l.fn.folder.levels - 1) ((g.D.Disk.tree l.fn.disk).names (whole_text l.fn.root l.fn.folder.path)) (g.D.Disk.names l.disk)
      (g.D.Disk.entries l.fn.disk) l.fn.gathered (g.D.Disk.entries l.disk) l.gathered;
  tree : IsTrue g.D.Disk.is_known → g.D.Disk.tree l.disk ≡ g.D.Disk.tree l.fn.disk;
  failed : g.D.Disk.has_failed l.disk ≡ false;
  entries : g.D.Disk.entries l.disk ≤ l.fn.most;
  faults : g.D.Disk.faults l.disk ≡ g.D.Disk.faults l.fn.disk;
  grows : length l.gathered.folders.items + g.D.Disk.entries l.fn.disk ≤ length l.fn.gathered.folders.items + g.D.Disk.entries l.disk;
}

abbrev pub decreases-loop-entry : goal.decreases-loop-entry
decreases-loop-entry g l = (l.fn.most + 1) - g.D.Disk.entries l.disk
