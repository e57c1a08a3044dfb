use Rattle.pana_family.proofs.Words.{arith}
use Rattle.pana_family.proofs.reporting.edit_change.Goals as goal

pub updated_event-requires-clause-owner : goal.updated_event-requires-clause-owner
updated_event-requires-clause-owner c = c.requires.kept.stands.owning c.row_of.result.now c.row_of.ensures.there

pub updated_event-requires-clause-room : goal.updated_event-requires-clause-room
updated_event-requires-clause-room c =
    omega (arith, c.requires.kept.levels c.row_of.result.now c.row_of.ensures.there, (c.requires.before c.row_of.result.now c.row_of.ensures.there).1, c.requires.fits)
