use Rattle.pana_family.proofs.Words.{◌∙◌, ap, ◌≡◌, ℕ, List, arith, insert, StampRow}
use Rattle.pana_family.proofs.{Places.index_from, Places.put_back_insert, Places.place_from_within, Inverses.absent_at}
use Rattle.pana_family.proofs.change.insert_row.Goals as goal

pub insert-requires : goal.insert-requires
insert-requires c =
    let at : c.index_from-at.result ≡ index_from c.args.row.copy c.args.items.now.items = c.index_from-at.ensures ∙ ap (index_from c.args.row.copy) c.deref.ensures.value in
    omega (arith, at, place_from_within c.args.row.copy c.args.items.now.items)

pub returns-clause-items : goal.returns-clause-items
returns-clause-items c =
    let rows : List StampRow = c.args.items.now.items in
    c.in-Ok.ensures.items ∙ ap (λ (k : ℕ). insert rows k c.args.row) (c.index_from-at.ensures ∙ ap (index_from c.args.row.copy) c.deref.ensures.value)
    ∙ put_back_insert c.args.row c.args.row rows (absent_at c.args.row.copy (index_from c.args.row.copy rows) c.args.row rows c.requires.rising c.requires.absent)
