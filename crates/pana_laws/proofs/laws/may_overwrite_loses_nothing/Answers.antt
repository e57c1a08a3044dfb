use Rattle.pana_laws.proofs.Overwritten.{same_hall, yes_just_then}
use Rattle.pana_laws.proofs.laws.may_overwrite_loses_nothing.Goals as goal

pub returns-clause-verdict : goal.returns-clause-verdict
returns-clause-verdict c = yes_just_then

pub returns-clause-hall : goal.returns-clause-hall
returns-clause-hall c = same_hall
