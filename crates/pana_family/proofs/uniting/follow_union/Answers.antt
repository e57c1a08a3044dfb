use Rattle.pana_family.proofs.Words.{[], ◌∷◌}
use Rattle.pana_family.proofs.uniting.follow_union.Goals as goal

pub set_like-requires-clause-rels : goal.set_like-requires-clause-rels
set_like-requires-clause-rels c = c.set_united.ensures.rels (c.args.b ∷ []) c.requires.uniting.rels
