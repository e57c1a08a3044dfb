use Rattle.std.proofs.Common.{ap}
use Rattle.pana_rel.proofs.Orders.{is_missed, misses_at, missed_gap}
use Rattle.pana_rel.proofs.pair_table.PairTable.gap.Goals as goal

pub unwrap_err-requires : goal.unwrap_err-requires
unwrap_err-requires c =
    is_missed _ _ _ (misses_at _ _ _ c.args.copy _ c.as_slice.ensures.value (ap (λ t. t.copies) c.self.view_is) c.self.invariant.0.rising c.binary_search.ensures.position c.requires)

pub returns : goal.returns
returns c =
    let found = misses_at _ _ _ c.args.copy _ c.as_slice.ensures.value (ap (λ t. t.copies) c.self.view_is) c.self.invariant.0.rising c.binary_search.ensures.position c.requires in
    missed_gap _ c.args.copy _ _ found c.unwrap_err.ensures
