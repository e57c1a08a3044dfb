use Rattle.std.proofs.Common.{◌≡◌, ◌+◌, ◌≤◌, ◌++◌, IsTrue, map}
use Rattle.pana_scan.specs.Scan.{row_at, unreadable_count}
use Rattle.pana_scan.specs.inner.Look.{paths_of}
use Rattle.pana_scan.proofs.looking.look_at.Given as goal

abbrev pub invariant-loop-path : goal.invariant-loop-path
invariant-loop-path g l = record {
  next : (goal.iterator-loop-path g).can_next l.path-iterator;
  ends : (goal.iterator-loop-path g).is_finite l.path-iterator;
  paths : l.fn.files.items ≡ paths_of l.rows.items ++ l.path-iterator.rest.items;
  known : IsTrue g.D.Disk.is_known → l.rows.items ≡ map (row_at (g.D.Disk.tree l.fn.disk) l.fn.root) (paths_of l.rows.items);
  tree : IsTrue g.D.Disk.is_known → g.D.Disk.tree l.disk ≡ g.D.Disk.tree l.fn.disk;
  failed : g.D.Disk.has_failed l.disk ≡ g.D.Disk.has_failed l.fn.disk;
  entries : g.D.Disk.entries l.disk ≡ g.D.Disk.entries l.fn.disk;
  faults : g.D.Disk.faults l.disk ≤ g.D.Disk.faults l.fn.disk + unreadable_count l.rows.items;
}
