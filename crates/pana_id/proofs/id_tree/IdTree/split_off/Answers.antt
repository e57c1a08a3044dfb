use Rattle.pana_id.proofs.Parts.{valid_as_parts, parted_as_parts}
use Rattle.pana_id.proofs.id_tree.IdTree.split_off.Goals as goal

pub invariant_of-result : goal.invariant_of-result
invariant_of-result c =
    (valid_as_parts _ _ _ _ c.self.view_is c.in_ok-second.ensures.ok c.if-not-splits.ensures c.self.invariant).1

pub invariant_of-self-2 : goal.invariant_of-self-2
invariant_of-self-2 c =
    (valid_as_parts _ _ _ _ c.self.view_is c.in_ok-second.ensures.ok c.if-not-splits.ensures c.self.invariant).0

pub returns-clause-parted : goal.returns-clause-parted
returns-clause-parted c =
    parted_as_parts _ _ _ _ c.self.view_is c.in_ok-second.ensures.ok c.if-not-splits.ensures c.self.invariant
