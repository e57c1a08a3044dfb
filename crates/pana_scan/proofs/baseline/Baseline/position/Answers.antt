use Rattle.std.proofs.Common.{rules}
use Rattle.std.proofs.lemmas.Fn.{always_returns_same}
use Rattle.pana_scan.specs.Order.{path_cmp}
use Rattle.pana_scan.proofs.Settled.{placed}
use Rattle.pana_scan.proofs.baseline.Baseline.position.Goals as goal

-- the closure compares a row's path, and the slice is the baseline's rows
pub returns : goal.returns
returns c =
    let facts = c.binary_search_by.ensures in
    let by_path = facts.position (λ row. path_cmp row.path c.args.path.now) (always_returns_same _ _ _ (λ a r g called. search rules)) in
    rw (← c.self.view_is, ← c.as_slice.ensures.value) (placed c.args.path.now _ _ (rw c.as_slice.ensures.value c.self.invariant) facts.bound by_path)
