use Rattle.std.proofs.Common.{◌≡◌, ◌↔◌, true, Contains, ap, sym, subst}
use Rattle.pana_rel.proofs.Searches.{search_tells}
use Rattle.pana_rel.proofs.pair_table.PairTable.contains.Goals as goal

pub returns : goal.returns
returns c =
    subst (λ is. (is ≡ true) ↔ Contains c.args.self.now.copies c.args.copy) (sym c.is_ok.ensures.value)
    (search_tells _ _ _ c.args.copy _ c.as_slice.ensures.value (ap (λ t. t.copies) c.self.view_is) c.self.invariant.0.rising c.binary_search.ensures.position)
