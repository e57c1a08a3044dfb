use Rattle.pana_family.proofs.Words.{arith, nat_tests, sym, ◌∙◌, ap, ◌≡◌, List, subst, set, StampRow, IsRising, placed, Put, row_at}
use Rattle.pana_family.proofs.{Backs.rising_put, Inverses.replaced_at, Inverses.row_put}
use Rattle.pana_family.proofs.change.put_row.Goals as goal

replaced : (c : goal.After-items-1) → IsRising 0 (set c.args.items.now.items c.in-Some.at c.replace.new.dest)
    × (row_at (set c.args.items.now.items c.in-Some.at c.replace.new.dest) ≡ placed (Put c.args.row) (row_at c.args.items.now.items))
replaced c =
    let rows : List StampRow = c.args.items.now.items in
    let made = replaced_at c.in-Some.at c.index_mut.result.now c.args.row rows c.deref.result.now c.requires.rising c.deref.ensures.value
    c.in-Some.ensures.some.0 (c.in-Some.ensures.some.1 c.index_mut.result.now) c.index_mut.ensures.value in
    subst (λ (x : StampRow). IsRising 0 (set rows c.in-Some.at x) × (row_at (set rows c.in-Some.at x) ≡ placed (Put c.args.row) (row_at rows))) (sym c.replace.ensures.after) (made.0, made.1)

pub returns-in-Some-clause-rising : goal.returns-in-Some-clause-rising
returns-in-Some-clause-rising c = (replaced c).0

pub returns-in-Some-clause-rows : goal.returns-in-Some-clause-rows
returns-in-Some-clause-rows c = (replaced c).1

pub returns-in-None-clause-rising : goal.returns-in-None-clause-rising
returns-in-None-clause-rising c = grind (arith, nat_tests, rising_put)

pub returns-in-None-clause-rows : goal.returns-in-None-clause-rows
returns-in-None-clause-rows c = ap row_at c.insert_row.ensures.items ∙ row_put c.args.row c.args.items.now.items
