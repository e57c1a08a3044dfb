use Rattle.pana_id.proofs.Points.{disjoint_iff_apart}
use Rattle.pana_id.proofs.Sums.{valid_as_sum, summed_as_sum}
use Rattle.pana_id.proofs.id_tree.IdTree.sum.Goals as goal

pub sum-requires : goal.sum-requires
sum-requires c =
    (disjoint_iff_apart _ _ c.left.invariant c.right.invariant).1 (rw (c.left.view_is, c.right.view_is) c.requires)

pub invariant_of-result : goal.invariant_of-result
invariant_of-result c = valid_as_sum _ _ _ c.in_ok-whole.ensures c.left.invariant c.right.invariant

pub returns-clause-summed : goal.returns-clause-summed
returns-clause-summed c =
    rw (← c.left.view_is, ← c.right.view_is) (summed_as_sum _ _ _ c.in_ok-whole.ensures c.left.invariant c.right.invariant)
