use Rattle.std.proofs.Common.{◌∙◌, ap, sym, refl}
use Rattle.pana_rel.proofs.Orders.{finds_at, value_of}
use Rattle.pana_rel.proofs.pair_table.PairTable.place.Goals as goal

pub unwrap-requires : goal.unwrap-requires
unwrap-requires c =
    rw (finds_at _ _ _ c.args.copy _ c.as_slice.ensures.value (ap (λ t. t.copies) c.self.view_is) c.self.invariant.0.rising c.binary_search.ensures.position c.requires) refl

pub returns-clause-place : goal.returns-clause-place
returns-clause-place c =
    sym (ap value_of c.unwrap.ensures)
    ∙ ap value_of (finds_at _ _ _ c.args.copy _ c.as_slice.ensures.value (ap (λ t. t.copies) c.self.view_is) c.self.invariant.0.rising c.binary_search.ensures.position c.requires)
