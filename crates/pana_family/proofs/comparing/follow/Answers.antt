use Rattle.pana_family.proofs.comparing.follow.Goals as goal

pub put_coming-requires-clause-followed : goal.put_coming-requires-clause-followed
put_coming-requires-clause-followed c = c.drop_gone.ensures.followed _ _ c.requires.followed
