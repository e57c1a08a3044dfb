use Rattle.pana_family.proofs.Words.{arith, nat_tests, sym, ◌∙◌, ap, ◌≡◌, ◌<◌, List, Some, subst, length, get_or, StampRow, row_at}
use Rattle.pana_family.proofs.{Places.dropped_none, Places.remove_is, Places.row_in_at, Inverses.named_at}
use Rattle.pana_family.proofs.change.take_row.Goals as goal

found : (c : goal.After-remove) → (c.in-Some.at < length c.args.items.now.items) × (row_at c.args.items.now.items c.args.copy ≡ Some c.remove.result)
found c =
    let h = subst (λ (l : List StampRow). (c.in-Some.at < length l) × (row_at l c.args.copy ≡ Some (get_or l c.in-Some.at c.remove.result))) c.deref.ensures.value (c.in-Some.ensures.some.0, c.in-Some.ensures.some.1 c.remove.result) in
    (h.0, h.1 ∙ ap Some (sym c.remove.ensures.value))

pub returns-in-Some-clause-former : goal.returns-in-Some-clause-former
returns-in-Some-clause-former c = sym (found c).1

pub returns-in-Some-clause-items : goal.returns-in-Some-clause-items
returns-in-Some-clause-items c =
    let rows : List StampRow = c.args.items.now.items in
    c.remove.ensures.items ∙ remove_is 0 c.args.copy c.in-Some.at c.remove.result rows c.requires (found c).0
    (ap (λ (r : StampRow). r.copy) (sym c.remove.ensures.value) ∙ named_at rows c.args.copy c.remove.result (found c).1)

pub returns-in-None-clause-items : goal.returns-in-None-clause-items
returns-in-None-clause-items c = grind (arith, nat_tests, dropped_none, row_in_at)
