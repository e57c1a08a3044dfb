use Rattle.std.proofs.Common.{◌∙◌}
use Rattle.pana_rel.proofs.Calls.{all_counts_read, rows_self_equal, split_read}
use Rattle.pana_rel.proofs.pair_table.PairTable.board.Goals as goal

pub counts_of-requires-clause-itself : goal.counts_of-requires-clause-itself
counts_of-requires-clause-itself c = rows_self_equal c.self.inside.copies.items c.self.inside.rows.items c.deref.result.now c.self.invariant.0 c.deref.ensures.value

pub newest-requires : goal.newest-requires
newest-requires c = c.as_slice.ensures.value ∙ all_counts_read _ _ _ _ c.args.self.now _ c.self.invariant.0 c.self.view_is c.deref.ensures.value c.in_ok-counts.ensures

pub returns-clause-counts : goal.returns-clause-counts
returns-clause-counts c = all_counts_read _ _ _ _ c.args.self.now _ c.self.invariant.0 c.self.view_is c.deref.ensures.value c.in_ok-counts.ensures

pub returns-clause-split : goal.returns-clause-split
returns-clause-split c = split_read _ _ _ _ c.args.self.now _ c.self.invariant.0 c.self.view_is c.deref-2.ensures.value c.is_split-split.ensures
