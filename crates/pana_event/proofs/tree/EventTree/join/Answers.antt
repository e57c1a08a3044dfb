use Rattle.std.proofs.Common.{◌∙◌, ap₂}
use Rattle.pana_event.specs.Join.{joined}
use Rattle.pana_event.specs.Shape.{tree}
use Rattle.pana_event.proofs.Sound.{IsSound-joined, IsJoin-joined, joined_comm, greatest-joined}
use Rattle.pana_event.proofs.tree.EventTree.join.Goals as goal

pub invariant_of-result : goal.invariant_of-result
invariant_of-result c = rw c.in_ok-node.ensures (IsSound-joined _ _ c.first.invariant c.second.invariant)

pub returns-clause-turned : goal.returns-clause-turned
returns-clause-turned c =
    c.in_ok-node.ensures ∙ joined_comm (tree c.first.inside.node) (tree c.second.inside.node) ∙ ap₂ joined c.second.view_is c.first.view_is

pub returns-clause-levels : goal.returns-clause-levels
returns-clause-levels c =
    rw (c.in_ok-node.ensures, ← c.first.view_is, ← c.second.view_is) (IsJoin-joined _ _ c.first.invariant.shallow c.second.invariant.shallow)

pub returns-clause-greatest : goal.returns-clause-greatest
returns-clause-greatest c =
    rw (c.in_ok-node.ensures, ← c.first.view_is, ← c.second.view_is) (greatest-joined (tree c.first.inside.node) (tree c.second.inside.node))
