use Rattle.std.proofs.Common.{◌≡◌, ◌-◌, ◌≤◌, IsTrue}
use Rattle.pana_track.proofs.Searched.{IsSearched}
use Rattle.pana_track.proofs.ignore_file.has_ignore_file.Given as goal

abbrev pub invariant-loop-entry : goal.invariant-loop-entry
invariant-loop-entry g l = record {
  known : IsTrue g.D.Disk.is_known → IsSearched ((g.D.Disk.tree l.fn.disk).names l.fn.root) (g.D.Disk.names l.disk) (g.D.Disk.entries l.disk);
  tree : IsTrue g.D.Disk.is_known → g.D.Disk.tree l.disk ≡ g.D.Disk.tree l.fn.disk;
  entries : g.D.Disk.entries l.disk ≤ 1000000;
}

abbrev pub decreases-loop-entry : goal.decreases-loop-entry
decreases-loop-entry g l = 1000001 - g.D.Disk.entries l.disk
