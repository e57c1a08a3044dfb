use Rattle.std.proofs.Common.{◌≡◌, ◌++◌, List}
use Rattle.std.specs.List.Sorted.{IsPermutation}
use Rattle.pana_scan.specs.Order.{Path}
use Rattle.pana_scan.proofs.looking.deal.Given as goal

abbrev pub invariant-loop-path : goal.invariant-loop-path
invariant-loop-path l = record {
  next : (goal.iterator-loop-path).can_next l.path-iterator;
  ends : (goal.iterator-loop-path).is_finite l.path-iterator;
  dealt : (so_far : List Path) × (l.fn.files.items ≡ so_far ++ l.path-iterator.rest.items) × IsPermutation so_far (l.one.items ++ l.other.items);
}
