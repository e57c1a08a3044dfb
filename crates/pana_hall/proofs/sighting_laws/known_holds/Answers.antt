use Rattle.pana_hall.proofs.Heirs.{is_held}
use Rattle.pana_hall.proofs.sighting_laws.known_holds.Goals as goal

pub returns : goal.returns
returns c = is_held
