use Rattle.std.proofs.Common.{◌≡◌, sym, ap₂, ◌∙◌}
use Rattle.pana_event.specs.Shape.{tree as event_of}
use Rattle.pana_stamp.specs.Grow.{grow as grow_of, cost_of}
use Rattle.pana_stamp.proofs.Calls.{sound_grow, grown_grow, raised_grow}
use Rattle.pana_stamp.proofs.growing.grow_one.Goals as goal
use Rattle.pana_stamp.proofs.growing.grow_one.Goals.{After-cost-1}

grown : (c : After-cost-1) → event_of c.in_ok-node.node ≡ grow_of c.args.id.now c.args.event.now
grown c = c.in_ok-node.ensures.tree ∙ ap₂ grow_of (sym c.requires.one) c.node-2.ensures.same

cost : (c : After-cost-1) → c.in_ok-node.cost ≡ cost_of c.args.id.now c.args.event.now
cost c = c.in_ok-node.ensures.cost ∙ ap₂ cost_of (sym c.requires.one) c.node-2.ensures.same

pub of_node-requires-clause-normal : goal.of_node-requires-clause-normal
of_node-requires-clause-normal c =
    (sound_grow _ _ _ (grown c) c.node.ensures.valid c.requires.owner c.node-2.ensures.normal c.node-2.ensures.shallow c.requires.room c.requires.filled).normal

pub of_node-requires-clause-shallow : goal.of_node-requires-clause-shallow
of_node-requires-clause-shallow c =
    (sound_grow _ _ _ (grown c) c.node.ensures.valid c.requires.owner c.node-2.ensures.normal c.node-2.ensures.shallow c.requires.room c.requires.filled).shallow

pub of_node-requires-clause-fits : goal.of_node-requires-clause-fits
of_node-requires-clause-fits c =
    (sound_grow _ _ _ (grown c) c.node.ensures.valid c.requires.owner c.node-2.ensures.normal c.node-2.ensures.shallow c.requires.room c.requires.filled).fits

pub returns-clause-place : goal.returns-clause-place
returns-clause-place c =
    grown_grow _ _ _ _ (c.of_node.ensures ∙ grown c.before) (cost c.before) c.node.ensures.valid c.requires.owner c.node-2.ensures.normal c.requires.filled

pub returns-clause-raised : goal.returns-clause-raised
returns-clause-raised c =
    raised_grow _ _ _ (c.of_node.ensures ∙ grown c.before) c.node.ensures.valid c.requires.owner c.node-2.ensures.normal c.requires.filled
