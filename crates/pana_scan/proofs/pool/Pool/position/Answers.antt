use Rattle.std.proofs.Common.{◌≡◌, sym, subst, rules, true, false}
use Rattle.std.specs.List.Sorted.{IsPartitionPoint, IsPartitionedBy}
use Rattle.std.proofs.lemmas.List.Sorted.{IsPartitionPoint-from_clause}
use Rattle.pana_scan.specs.inner.Pool.{is_before}
use Rattle.pana_scan.proofs.pool.Pool.position.Goals as goal

-- the closure tests a row, and the slice is the pool's rows
pub returns-clause-point : goal.returns-clause-point
returns-clause-point g c =
    subst (λ rows. IsPartitionPoint (λ row. is_before c.args.sum.now row ≡ true) (λ row. is_before c.args.sum.now row ≡ false) rows c.partition_point.result) c.as_slice.ensures.value
    (IsPartitionPoint-from_clause (is_before c.args.sum.now) c.as_slice.result.now c.partition_point.result c.partition_point.ensures.partitioned
    (subst (IsPartitionedBy (is_before c.args.sum.now)) (sym c.as_slice.ensures.value) (c.requires.before c.args.sum.now)) (λ a r f called. search rules))
