use Rattle.std.proofs.Common.{arith, sym, ap, ◌∙◌}
use Rattle.pana_event.specs.Shape.{tree}
use Rattle.pana_event.proofs.Shares.{raised-lifts, raised-leaf}
use Rattle.pana_event.proofs.joining.join_leaf.Goals as goal

pub returns-then-level-base : goal.returns-then-level-base
returns-then-level-base c =
    raised-lifts c.args.level c.args.base (tree c.args.event.now) c.requires.normal (omega (arith, c.if-level-base.true, c.number.ensures))

pub returns-in-Leaf-2 : goal.returns-in-Leaf-2
returns-in-Leaf-2 c =
    let leaf_made = sym c.in_ok-node.ensures ∙ ap tree c.in-Leaf-2.is in
    raised-leaf c.args.level c.args.base (tree c.args.event.now) c.in-Leaf-2.field-0 c.requires.normal (omega (arith, c.if-level-base.false, c.number.ensures)) leaf_made
