use Rattle.pana_hall.proofs.SightingLaws.{known_decided, known_same}
use Rattle.pana_hall.proofs.sighting_laws.known_changes_nothing.Goals as goal

pub returns : goal.returns
returns c = record { same = known_same; decided = known_decided }
