use Rattle.pana_hall.proofs.SightingLaws.{own_alone, own_relations}
use Rattle.pana_hall.proofs.sighting_laws.found_changes_own_relations.Goals as goal

pub returns : goal.returns
returns c = record { pair = own_relations; own = own_alone }
