use Rattle.pana_rel.proofs.Calls.{row_read}
use Rattle.pana_rel.proofs.pair_table.PairTable.row.Goals as goal

pub returns-clause-rels : goal.returns-clause-rels
returns-clause-rels c =
    (row_read _ _ _ c.args.self.now c.args.copy _ _ _ c.self.invariant.0 c.self.view_is c.index.ensures c.as_slice.ensures c.requires c.place.ensures.place).0

pub returns-clause-long : goal.returns-clause-long
returns-clause-long c =
    (row_read _ _ _ c.args.self.now c.args.copy _ _ _ c.self.invariant.0 c.self.view_is c.index.ensures c.as_slice.ensures c.requires c.place.ensures.place).1
