use Rattle.std.proofs.Common.{◌≡◌, IsTrue, length}
use Rattle.sha2.specs.Hashers.{Holds256}
use Rattle.pana_scan.proofs.Hashed.{IsHashed}
use Rattle.pana_scan.proofs.fingerprinting.fingerprint.Given as goal

abbrev pub invariant-loop-made : goal.invariant-loop-made
invariant-loop-made g l = record {
  known : IsTrue g.D.Disk.is_known → IsHashed (g.D.Disk.content l.fn.disk) (g.D.Disk.content l.disk) l._made (Holds256 l.hasher);
  tree : IsTrue g.D.Disk.is_known → g.D.Disk.tree l.disk ≡ g.D.Disk.tree l.fn.disk;
  failed : g.D.Disk.has_failed l.disk ≡ g.D.Disk.has_failed l.fn.disk;
  entries : g.D.Disk.entries l.disk ≡ g.D.Disk.entries l.fn.disk;
  faults : g.D.Disk.faults l.disk ≡ g.D.Disk.faults l.fn.disk;
  long : length l.piece ≡ 16384;
}
