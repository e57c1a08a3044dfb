use Rattle.pana_hall.proofs.Advised.{stated}
use Rattle.pana_hall.proofs.laws.states_are_of_sets.Goals as goal

pub returns : goal.returns
returns c = λ journal copy accepted. stated journal accepted copy
