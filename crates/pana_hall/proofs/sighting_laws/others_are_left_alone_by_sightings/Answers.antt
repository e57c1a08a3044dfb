use Rattle.pana_hall.proofs.SightingLaws.{left_alone, pairs_alone}
use Rattle.pana_hall.proofs.sighting_laws.others_are_left_alone_by_sightings.Goals as goal

pub returns : goal.returns
returns c = record { copy = left_alone; pair = pairs_alone }
