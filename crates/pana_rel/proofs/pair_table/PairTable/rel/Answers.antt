use Rattle.pana_rel.proofs.Calls.{rel_read}
use Rattle.pana_rel.proofs.pair_table.PairTable.rel.Goals as goal

pub returns-clause-value : goal.returns-clause-value
returns-clause-value c =
    (rel_read _ _ _ c.args.self.now c.args.a c.args.b _ _ _ _ c.self.invariant.0 c.self.view_is c.index.ensures c.get.ensures c.requires.first c.requires.second c.place.ensures.place c.place-2.ensures.place).0

pub returns-clause-reversed : goal.returns-clause-reversed
returns-clause-reversed c =
    (rel_read _ _ _ c.args.self.now c.args.a c.args.b _ _ _ _ c.self.invariant.0 c.self.view_is c.index.ensures c.get.ensures c.requires.first c.requires.second c.place.ensures.place c.place-2.ensures.place).1

pub returns-clause-itself : goal.returns-clause-itself
returns-clause-itself c =
    (rel_read _ _ _ c.args.self.now c.args.a c.args.b _ _ _ _ c.self.invariant.0 c.self.view_is c.index.ensures c.get.ensures c.requires.first c.requires.second c.place.ensures.place c.place-2.ensures.place).2
