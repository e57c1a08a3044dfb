use Rattle.std.proofs.Common.{◌≡◌, ◌+◌, ◌-◌, ◌≤◌, IsTrue, false, length}
use Rattle.pana_scan.proofs.Walked.{IsWalked}
use Rattle.pana_scan.proofs.folder.gather.Given as goal

abbrev pub invariant-loop-folder : goal.invariant-loop-folder
invariant-loop-folder g l = record {
  known : IsTrue g.D.Disk.is_known → IsWalked (g.D.Disk.tree l.fn.disk) l.fn.root l.gathered.folders.items l.gathered.files.items l.gathered.skipped (g.D.Disk.entries l.disk);
  tree : IsTrue g.D.Disk.is_known → g.D.Disk.tree l.disk ≡ g.D.Disk.tree l.fn.disk;
  failed : g.D.Disk.has_failed l.disk ≡ false;
  entries : g.D.Disk.entries l.disk ≤ l.fn.most;
  faults : g.D.Disk.faults l.disk ≡ 0;
}

-- entries that may still be met, and folders that were met and aren't listed yet
abbrev pub decreases-loop-folder : goal.decreases-loop-folder
decreases-loop-folder g l = (l.fn.most + 1) - g.D.Disk.entries l.disk + length l.gathered.folders.items
