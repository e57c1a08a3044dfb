use Rattle.pana_family.proofs.Words.{nat_tests, ap, sym, subst, refl, ◌∙◌, ◌∷◌, List, ℕ, filter, length, take, arith, length-map, Rel, Holds, rel_at, rel_of, with_row, without, StampRow, copy_rows}
use Rattle.pana_family.proofs.Words.{lives, AreCompared, is_other, row_relation}
use Rattle.pana_family.proofs.{Compared.copy_compared, Compared.others_length, Copies.copies_are, Written.IsRowAt, Written.row_at}
use Rattle.pana_family.proofs.uniting.set_united.Goals as goal

pub write_united-count-requires-clause-room : goal.write_united-count-requires-clause-room
write_united-count-requires-clause-room c = grind (arith, nat_tests, row_at, others_length)

pub set_row-requires-clause-long : goal.set_row-requires-clause-long
set_row-requires-clause-long c =
    let rows : List StampRow = c.args.rows.now in
    let row : StampRow = c.index-rows-index_of.result in
    let here : IsRowAt rows c.index_of.result c.args.a row = row_at rows rows _ _ row refl c.index_of.ensures.within c.index_of.ensures.here c.index_of.ensures.free c.index-rows-index_of.is in
    omega (
      arith,
      others_length row.copy 0 rows c.requires.rising (ap (lives rows) here.named ∙ c.requires.first),
      ap length c.write_united-count.ensures.rels,
      length-map (filter (is_other row.copy) rows) (row_relation row),
      ap length (copies_are rows c.args.pairs.now.copies c.requires.rising c.copies.ensures.rising c.requires.copies),
      length-map (copy_rows rows) (λ (r : StampRow). r.copy),
    )

pub returns-clause-rels : goal.returns-clause-rels
returns-clause-rels c = λ but was.
    let rows : List StampRow = c.args.rows.now in
    let row : StampRow = c.index-rows-index_of.result in
    let old = c.args.pairs.now in
    let new = c.set_row.new.self in
    let here : IsRowAt rows c.index_of.result c.args.a row = row_at rows rows _ _ row refl c.index_of.ensures.within c.index_of.ensures.here c.index_of.ensures.free c.index-rows-index_of.is in
    copy_compared rows old new row c.requires.rising c.all_valid.ensures c.copies.ensures.rising c.requires.copies here.row here.free c.set_row.ensures.copies
    (subst (λ (l : List Rel). Holds new (with_row row.copy (rel_at (without row.copy old.copies) l) (rel_of old))) c.write_united-count.ensures.rels
    (subst (λ (k : ℕ). Holds new (with_row k (rel_at (without k old.copies) (take c.write_united-count.result c.write_united-count.new.rels)) (rel_of old))) (sym here.named) c.set_row.ensures.pairs))
    but (subst (λ (k : ℕ). AreCompared (k ∷ but) rows old) (sym here.named) was)

pub write_united-count-requires-clause-here : goal.write_united-count-requires-clause-here
write_united-count-requires-clause-here c =
    let rows : List StampRow = c.args.rows.now in
    (row_at rows rows c.index_of.result c.args.a c.index-rows-index_of.result refl c.index_of.ensures.within c.index_of.ensures.here c.index_of.ensures.free c.index-rows-index_of.is).row
