use Rattle.pana_family.proofs.Words.{◌∙◌, refl, subst, IsSound}
use Rattle.pana_family.proofs.United.{decided}
use Rattle.pana_family.proofs.uniting.decided_relation.Goals as goal

pub returns : goal.returns
returns c =
    c.relation_of.ensures
    ∙ decided c.args.first.now.stamp.event c.args.second.now.stamp.event c.args.below c.args.below c.is_above.result
    (subst IsSound c.event_tree.ensures record { normal = c.node.ensures.normal; shallow = c.node.ensures.shallow; fits = c.node.ensures.fits })
    (subst IsSound c.event_tree-2.ensures record { normal = c.node-2.ensures.normal; shallow = c.node-2.ensures.shallow; fits = c.node-2.ensures.fits }) c.requires.below_is refl c.is_above.ensures
