use Rattle.std.proofs.Common.{◌≡◌, suc, ◌-◌, ◌/◌, IfOk, ap, ap₂, subst, ◌∙◌, arith}
use Rattle.pana_event.specs.Event.{fork}
use Rattle.pana_stamp.specs.Cost.{one_up}
use Rattle.pana_event.specs.Shape.{tree as event_of}
use Rattle.pana_id.specs.Node.{single}
use Rattle.pana_stamp.specs.Grow.{grow as grow_of, cost_of}
use Rattle.pana_stamp.proofs.OnePlace.{left_grown, left_cost, right_grown, right_cost, place_opened, place_levels}
use Rattle.pana_stamp.proofs.growing.+one_place.Goals as goal

pub grow_place-returns-clause-tree : goal.grow_place-returns-clause-tree
grow_place-returns-clause-tree t c =
    let same : suc (c.args.place - 1) ≡ c.args.place = omega (arith, c.if-place-eq0.false) in
    subst (λ n. IfOk c.grow_single.result (λ two. event_of two.0 ≡ grow_of (single 64 n) (event_of c.args.event.now))) same c.grow_single.ensures.tree

pub grow_place-returns-clause-cost : goal.grow_place-returns-clause-cost
grow_place-returns-clause-cost t c =
    let same : suc (c.args.place - 1) ≡ c.args.place = omega (arith, c.if-place-eq0.false) in
    subst (λ n. IfOk c.grow_single.result (λ two. two.1 ≡ cost_of (single 64 n) (event_of c.args.event.now))) same c.grow_single.ensures.cost

pub grow_single-one_up-requires-clause-opened : goal.grow_single-one_up-requires-clause-opened
grow_single-one_up-requires-clause-opened t c = omega (arith, place_opened (c.args.number / 2) (event_of c.halves_of.result.0.now) c.in_ok-grown.cost c.in_ok-grown.ensures.cost, c.opened_by-opened.ensures.bound)

pub grow_single-one_up-requires-clause-levels : goal.grow_single-one_up-requires-clause-levels
grow_single-one_up-requires-clause-levels t c = omega (arith, place_levels (c.args.number / 2) (event_of c.halves_of.result.0.now) c.in_ok-grown.cost c.in_ok-grown.ensures.cost)

pub grow_single-one_up-requires-else-number-eq0-clause-opened : goal.grow_single-one_up-requires-else-number-eq0-clause-opened
grow_single-one_up-requires-else-number-eq0-clause-opened t c = omega (arith, place_opened (c.args.number / 2) (event_of c.halves_of.result.1.now) c.in_ok-grown-2.cost c.in_ok-grown-2.ensures.cost, c.opened_by-opened.ensures.bound)

pub grow_single-one_up-requires-else-number-eq0-clause-levels : goal.grow_single-one_up-requires-else-number-eq0-clause-levels
grow_single-one_up-requires-else-number-eq0-clause-levels t c = omega (arith, place_levels (c.args.number / 2) (event_of c.halves_of.result.1.now) c.in_ok-grown-2.cost c.in_ok-grown-2.ensures.cost)

pub grow_single-returns-then-number-eq0-clause-tree : goal.grow_single-returns-then-number-eq0-clause-tree
grow_single-returns-then-number-eq0-clause-tree t c =
    c.in_ok-fork.ensures ∙ ap₂ (λ n r. fork n (event_of c.in_ok-grown.grown) r) c.number.ensures (c.in_ok-other.ensures ∙ c.halves_of.ensures.right)
    ∙ left_grown c.args.number (event_of c.args.event.now) (event_of c.in_ok-grown.grown) c.ranges.number.fits c.if-number-eq0.true
    (c.in_ok-grown.ensures.tree ∙ ap (grow_of (single 64 (c.args.number / 2))) c.halves_of.ensures.left)

pub grow_single-returns-then-number-eq0-clause-cost : goal.grow_single-returns-then-number-eq0-clause-cost
grow_single-returns-then-number-eq0-clause-cost t c =
    c.one_up.ensures ∙ ap (λ o. one_up o c.in_ok-grown.cost) c.opened_by-opened.ensures.value
    ∙ left_cost c.args.number (event_of c.args.event.now) c.in_ok-grown.cost c.ranges.number.fits c.if-number-eq0.true
    (c.in_ok-grown.ensures.cost ∙ ap (cost_of (single 64 (c.args.number / 2))) c.halves_of.ensures.left)

pub grow_single-returns-clause-tree : goal.grow_single-returns-clause-tree
grow_single-returns-clause-tree t c =
    c.in_ok-fork-2.ensures ∙ ap₂ (λ n l. fork n l (event_of c.in_ok-grown-2.grown)) c.number-else-number-eq0.ensures (c.in_ok-other-2.ensures ∙ c.halves_of.ensures.left)
    ∙ right_grown c.args.number (event_of c.args.event.now) (event_of c.in_ok-grown-2.grown) c.ranges.number.fits c.if-number-eq0.false
    (c.in_ok-grown-2.ensures.tree ∙ ap (grow_of (single 64 (c.args.number / 2))) c.halves_of.ensures.right)

pub grow_single-returns-clause-cost : goal.grow_single-returns-clause-cost
grow_single-returns-clause-cost t c =
    c.one_up-else-number-eq0.ensures ∙ ap (λ o. one_up o c.in_ok-grown-2.cost) c.opened_by-opened.ensures.value
    ∙ right_cost c.args.number (event_of c.args.event.now) c.in_ok-grown-2.cost c.ranges.number.fits c.if-number-eq0.false
    (c.in_ok-grown-2.ensures.cost ∙ ap (cost_of (single 64 (c.args.number / 2))) c.halves_of.ensures.right)
