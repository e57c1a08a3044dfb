use Rattle.pana_id.proofs.Points.{apart_as_test}
use Rattle.pana_id.proofs.id_tree.IdTree.disjoint.Goals as goal

pub returns-clause-points : goal.returns-clause-points
returns-clause-points c =
    rw (← c.left.view_is, ← c.right.view_is) (apart_as_test _ _ _ c.is_disjoint.ensures c.left.invariant c.right.invariant)
