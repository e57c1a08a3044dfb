use Rattle.pana_hall.proofs.SightingLaws.{left_after_missing, pairs_after_missing}
use Rattle.pana_hall.proofs.sighting_laws.missing_changes_no_relation.Goals as goal

pub returns : goal.returns
returns c = record { copy = left_after_missing; pair = pairs_after_missing }
