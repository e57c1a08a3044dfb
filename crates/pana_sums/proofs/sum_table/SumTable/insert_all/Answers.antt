use Rattle.std.proofs.Common.{◌≡◌, ◌∷◌, [], ◌∙◌, sym, ap, map, List}
use Rattle.std.specs.Map.Iter.{deref_pair}
use Rattle.std.proofs.lemmas.List.{map-append}
use Rattle.std.proofs.lemmas.Map.Iter.{iter_end}
use Rattle.pana_sums.specs.Table.{Row, all_inserted, inserted}
use Rattle.pana_sums.proofs.Inserted.{all_inserted_more}
use Rattle.pana_sums.proofs.sum_table.SumTable.insert_all.Goals as goal

pub loop-signature-preserved : goal.loop-signature-preserved
loop-signature-preserved c =
    let row : Row = (c.in-Some.signature.now, c.in-Some.digest.now) in
    c.in_ok-insert.ensures.ok
    ∙ ap (λ (table : List Row). inserted table row.0 row.1) c.loop-signature.invariant
    ∙ sym (all_inserted_more c.args.self.now (map deref_pair c.loop-signature.yielded) row)
    ∙ ap (all_inserted c.args.self.now) (sym (map-append deref_pair c.loop-signature.yielded _))
