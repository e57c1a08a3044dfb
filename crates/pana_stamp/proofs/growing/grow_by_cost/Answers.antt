use Rattle.std.proofs.Common.{ap, ◌∙◌, ap₂}
use Rattle.pana_stamp.specs.Grow.{cost_of, event_if}
use Rattle.pana_stamp.proofs.Calls.{found_grow, some_found, none_found, sound_grow, grown_grow, raised_grow}
use Rattle.pana_stamp.proofs.growing.grow_by_cost.Goals as goal

pub unreachable-requires : goal.unreachable-requires
unreachable-requires c =
    none_found _ _
    (found_grow _ _ _ _ _ _ c.node-root.ensures.same c.node-event_root.ensures.same c.least_cost-cost.ensures.value c.in_ok-node.ensures c.node-root.ensures.valid c.requires.owner c.node-event_root.ensures.normal c.requires.filled)
    (ap event_if c.in-None.is)

pub of_node-requires-clause-normal : goal.of_node-requires-clause-normal
of_node-requires-clause-normal c =
    let found = found_grow _ _ _ _ _ _ c.node-root.ensures.same c.node-event_root.ensures.same c.least_cost-cost.ensures.value c.in_ok-node.ensures c.node-root.ensures.valid c.requires.owner c.node-event_root.ensures.normal c.requires.filled in
    (sound_grow _ _ _ (some_found _ _ _ found (ap event_if c.in-Some.is)) c.node-root.ensures.valid c.requires.owner c.node-event_root.ensures.normal c.node-event_root.ensures.shallow c.requires.room c.requires.filled).normal

pub of_node-requires-clause-shallow : goal.of_node-requires-clause-shallow
of_node-requires-clause-shallow c =
    let found = found_grow _ _ _ _ _ _ c.node-root.ensures.same c.node-event_root.ensures.same c.least_cost-cost.ensures.value c.in_ok-node.ensures c.node-root.ensures.valid c.requires.owner c.node-event_root.ensures.normal c.requires.filled in
    (sound_grow _ _ _ (some_found _ _ _ found (ap event_if c.in-Some.is)) c.node-root.ensures.valid c.requires.owner c.node-event_root.ensures.normal c.node-event_root.ensures.shallow c.requires.room c.requires.filled).shallow

pub of_node-requires-clause-fits : goal.of_node-requires-clause-fits
of_node-requires-clause-fits c =
    let found = found_grow _ _ _ _ _ _ c.node-root.ensures.same c.node-event_root.ensures.same c.least_cost-cost.ensures.value c.in_ok-node.ensures c.node-root.ensures.valid c.requires.owner c.node-event_root.ensures.normal c.requires.filled in
    (sound_grow _ _ _ (some_found _ _ _ found (ap event_if c.in-Some.is)) c.node-root.ensures.valid c.requires.owner c.node-event_root.ensures.normal c.node-event_root.ensures.shallow c.requires.room c.requires.filled).fits

pub returns-clause-tree : goal.returns-clause-tree
returns-clause-tree c =
    let found = found_grow _ _ _ _ _ _ c.node-root.ensures.same c.node-event_root.ensures.same c.least_cost-cost.ensures.value c.in_ok-node.ensures c.node-root.ensures.valid c.requires.owner c.node-event_root.ensures.normal c.requires.filled in
    c.of_node.ensures ∙ some_found _ _ _ found (ap event_if c.in-Some.is)

pub returns-clause-place : goal.returns-clause-place
returns-clause-place c =
    let found = found_grow _ _ _ _ _ _ c.node-root.ensures.same c.node-event_root.ensures.same c.least_cost-cost.ensures.value c.in_ok-node.ensures c.node-root.ensures.valid c.requires.owner c.node-event_root.ensures.normal c.requires.filled in
    grown_grow _ _ _ _ (c.of_node.ensures ∙ some_found _ _ _ found (ap event_if c.in-Some.is)) (c.least_cost-cost.ensures.value ∙ ap₂ cost_of c.node-root.ensures.same c.node-event_root.ensures.same) c.node-root.ensures.valid c.requires.owner c.node-event_root.ensures.normal c.requires.filled

pub returns-clause-raised : goal.returns-clause-raised
returns-clause-raised c =
    let found = found_grow _ _ _ _ _ _ c.node-root.ensures.same c.node-event_root.ensures.same c.least_cost-cost.ensures.value c.in_ok-node.ensures c.node-root.ensures.valid c.requires.owner c.node-event_root.ensures.normal c.requires.filled in
    raised_grow _ _ _ (c.of_node.ensures ∙ some_found _ _ _ found (ap event_if c.in-Some.is)) c.node-root.ensures.valid c.requires.owner c.node-event_root.ensures.normal c.requires.filled
