use Rattle.pana_family.proofs.Words.{nat_tests, ◌∙◌, ap, arith, subst, sym, IsRising, RowList, after}
use Rattle.pana_family.proofs.Following.{Applied, applied, as_many, made_again}
use Rattle.pana_family.proofs.family.Family.exchange.Goals as goal
use Rattle.pana_family.proofs.family.Family.exchange.Goals.{After-back-1, After-follow_change}

made_change : (c : After-back-1) → Applied c.args.change c.apply-back.result c.self.inside.items.items c.apply-back.new.items.items
made_change c =
    applied c.args.change c.apply-back.result c.self.inside.items.items c.apply-back.new.items.items c.args.self.now.rows c.self.invariant.0 (ap (λ (v : RowList). v.rows) c.self.view_is) c.requires.kept
    c.apply-back.ensures.rising c.apply-back.ensures.rows c.apply-back.ensures.back

followed_change : (c : After-follow_change) → Applied c.args.change c.apply-back.result c.self.inside.items.items c.apply-back.new.items.items
followed_change c =
    applied c.args.change c.apply-back.result c.self.inside.items.items c.apply-back.new.items.items c.args.self.now.rows c.self.invariant.0 (ap (λ (v : RowList). v.rows) c.self.view_is) c.requires.kept
    c.apply-back.ensures.rising c.apply-back.ensures.rows c.apply-back.ensures.back

pub apply-back-requires-clause-room : goal.apply-back-requires-clause-room
apply-back-requires-clause-room c = grind (arith, nat_tests)

pub follow_change-requires-clause-few : goal.follow_change-requires-clause-few
follow_change-requires-clause-few c =
    let d = made_change c in
    grind (arith, nat_tests)

pub follow_change-requires-clause-rising : goal.follow_change-requires-clause-rising
follow_change-requires-clause-rising c = subst (IsRising 0) (sym c.deref.ensures.value) c.apply-back.ensures.rising

pub follow_change-requires-clause-room : goal.follow_change-requires-clause-room
follow_change-requires-clause-room c =
    let d = made_change c in
    grind (arith, nat_tests)

pub follow_change-requires-clause-paired : goal.follow_change-requires-clause-paired
follow_change-requires-clause-paired c =
    let d = made_change c in
    grind (arith, nat_tests)

pub follow_change-requires-clause-made : goal.follow_change-requires-clause-made
follow_change-requires-clause-made c =
    let d = made_change c in
    grind (arith, nat_tests, made_again)

pub invariant_of-self : goal.invariant_of-self
invariant_of-self c = grind (arith, nat_tests, followed_change, c.deref.ensures.value, c.follow_change.ensures.paired)

pub returns-clause-rows : goal.returns-clause-rows
returns-clause-rows c =
    let d = followed_change c in
    d.rows_are ∙ ap (λ (v : RowList). after c.args.change v.rows) c.self.view_is

pub returns-clause-back : goal.returns-clause-back
returns-clause-back c =
    let d = followed_change c in
    d.back_is ∙ ap (λ (v : RowList). v.rows) c.self.view_is

pub returns-clause-fits : goal.returns-clause-fits
returns-clause-fits c =
    let d = followed_change c in
    let many = as_many c.self.inside.items.items c.self.inside.pairs.copies c.self.invariant.0.rising c.copies.ensures.rising c.self.invariant.1.copies in
    grind (arith, nat_tests)
