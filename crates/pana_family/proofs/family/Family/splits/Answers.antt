use Rattle.pana_family.proofs.Words.{◌∙◌, ap, not, sym, Id, is_single, RowList, StampRow}
use Rattle.pana_family.proofs.Written.{row_at, row_found_at}
use Rattle.pana_family.proofs.family.Family.splits.Goals as goal

pub returns : goal.returns
returns c =
    c.splits.ensures ∙ ap (λ (i : Id). not (is_single i 256))
    (c.id.ensures ∙ ap (λ (r : StampRow). r.stamp.id) (sym (row_found_at c.self.inside.items.items c.args.self.now.rows c.index_of.result c.args.copy c.index-row.result.now (ap (λ (v : RowList). v.rows) c.self.view_is) c.self.invariant.0
    (row_at _ _ _ _ _ c.deref.ensures.value c.index_of.ensures.within c.index_of.ensures.here c.index_of.ensures.free c.index-row.ensures))))
