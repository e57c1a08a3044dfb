use Rattle.pana_family.proofs.United.{made_like}
use Rattle.pana_family.proofs.uniting.set_like.Goals as goal

pub returns-clause-paired : goal.returns-clause-paired
returns-clause-paired c =
    made_like c.args.rows.now c.args.a c.args.b c.args.pairs.now c.set_like.new.self c.requires.rising c.requires.first c.requires.second c.requires.differ c.requires.copies c.requires.rels c.requires.same
    c.copies.ensures.itself c.set_like.ensures.copies c.set_like.ensures.pairs
