use Rattle.pana_stamp.proofs.Places.{place_is_one}
use Rattle.pana_stamp.proofs.laws.growth_place_is_one.Goals as goal

pub returns : goal.returns
returns c = place_is_one
