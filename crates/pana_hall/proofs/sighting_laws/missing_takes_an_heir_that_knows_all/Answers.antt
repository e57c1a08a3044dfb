use Rattle.pana_hall.proofs.Heirs.{is_alone, is_heir}
use Rattle.pana_hall.proofs.sighting_laws.missing_takes_an_heir_that_knows_all.Goals as goal

pub returns-clause-heir : goal.returns-clause-heir
returns-clause-heir c = is_heir

pub returns-clause-alone : goal.returns-clause-alone
returns-clause-alone c = is_alone
