use Rattle.pana_hall.proofs.Stood.{rows_stand, too_deep_duplicates}
use Rattle.pana_hall.proofs.laws.rows_stand_for_sets.Goals as goal

pub returns-clause-stands : goal.returns-clause-stands
returns-clause-stands c = rows_stand

pub returns-clause-deep : goal.returns-clause-deep
returns-clause-deep c = too_deep_duplicates
