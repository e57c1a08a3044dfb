use Rattle.std.proofs.Common.{◌≡◌, map}
use Rattle.std.specs.Map.Iter.{deref}
use Rattle.pana_copies.specs.Spots.{place_of}
use Rattle.pana_copies.proofs.Paths.{AreFound}
use Rattle.pana_copies.proofs.copy_table.CopyTable.find_with_path.Given as goal

abbrev pub invariant-loop-device : goal.invariant-loop-device
invariant-loop-device l = record {
  path : l.own ≡ l.fn.path;
  found : AreFound (place_of l.self) l.fn.path (map deref l.yielded) l.copies.items;
}
