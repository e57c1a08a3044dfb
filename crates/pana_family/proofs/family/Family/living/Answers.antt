-- The table of relations has the living copies, in the order of their rows.
use Rattle.std.proofs.Common.{rules}
use Rattle.pana_family.proofs.Copies.{copies_are}
use Rattle.pana_family.proofs.family.Family.living.Goals as goal

pub returns : goal.returns
returns c =
    let are = copies_are c.self.inside.items.items c.self.inside.pairs.copies c.self.invariant.0.rising c.copies.ensures.rising c.self.invariant.1.copies in
    search (rules, are)
