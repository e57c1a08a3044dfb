use Rattle.std.proofs.Common.{◌≡◌, suc, ◌-◌, ◌/◌, IfOk, ap, subst, ◌∙◌, arith}
use Rattle.pana_event.specs.Event.{fork, greatest}
use Rattle.pana_event.specs.Shape.{tree as event_of}
use Rattle.pana_id.specs.Node.{single}
use Rattle.pana_stamp.specs.inner.Renewed.{filled_beside, new_or}
use Rattle.pana_stamp.proofs.FillPlace.{left_filled, right_filled, place_beside, greatest-beside, leaf_filled}
use Rattle.pana_stamp.proofs.filling.+one_place.Goals as goal

pub fill_place-returns-clause-tree : goal.fill_place-returns-clause-tree
fill_place-returns-clause-tree t c =
    let same : suc (c.args.place - 1) ≡ c.args.place = omega (arith, c.if-place-eq0.false) in
    subst (λ f. IfOk c.fill_single.result (λ new. new_or new (event_of c.args.event.now) ≡ f))
    (place_beside (c.args.place - 1) (event_of c.args.event.now) (event_of c.args.other.now) ∙ ap (λ n. filled_beside (single 64 n) (event_of c.args.event.now) (event_of c.args.other.now)) same)
    c.fill_single.ensures.tree

pub fill_half-with_halves-requires-clause-fits : goal.fill_half-with_halves-requires-clause-fits
fill_half-with_halves-requires-clause-fits t c =
    omega (arith, c.requires.fits, ap greatest c.in_ok-filled.ensures.tree, greatest-beside (single 64 (c.args.number / 2)) (event_of c.args.left.now) (event_of c.args.right.now))

pub fill_half-with_halves-requires-else-number-eq0-clause-fits : goal.fill_half-with_halves-requires-else-number-eq0-clause-fits
fill_half-with_halves-requires-else-number-eq0-clause-fits t c =
    omega (arith, c.requires.fits, ap greatest c.in_ok-filled-2.ensures.tree, greatest-beside (single 64 (c.args.number / 2)) (event_of c.args.right.now) (event_of c.args.left.now))

pub fill_half-returns-in_ok-filled-clause-tree : goal.fill_half-returns-in_ok-filled-clause-tree
fill_half-returns-in_ok-filled-clause-tree t c =
    subst (λ f. IfOk c.with_halves.result (λ new. new_or new (fork c.args.base (event_of c.args.left.now) (event_of c.args.right.now)) ≡ f))
    (left_filled c.args.number c.args.base (event_of c.args.left.now) (event_of c.args.right.now) (new_or c.in_ok-filled.filled (event_of c.args.left.now)) c.ranges.number.fits c.if-number-eq0.true c.in_ok-filled.ensures.tree)
    c.with_halves.ensures.tree

pub fill_half-returns-in_ok-filled-2-clause-tree : goal.fill_half-returns-in_ok-filled-2-clause-tree
fill_half-returns-in_ok-filled-2-clause-tree t c =
    subst (λ f. IfOk c.with_halves-else-number-eq0.result (λ new. new_or new (fork c.args.base (event_of c.args.left.now) (event_of c.args.right.now)) ≡ f))
    (right_filled c.args.number c.args.base (event_of c.args.left.now) (event_of c.args.right.now) (new_or c.in_ok-filled-2.filled (event_of c.args.right.now)) c.ranges.number.fits c.if-number-eq0.false c.in_ok-filled-2.ensures.tree)
    c.with_halves-else-number-eq0.ensures.tree

pub fill_single-returns-in-Leaf-clause-tree : goal.fill_single-returns-in-Leaf-clause-tree
fill_single-returns-in-Leaf-clause-tree t c = leaf_filled c.args.number (event_of c.args.event.now) c.in-Leaf.field-0 (ap event_of c.in-Leaf.is)
