use Rattle.pana_text.proofs.Exclusion.{of_one_stamp}
use Rattle.pana_text.proofs.laws.is_of_one_stamp.Goals as goal

pub returns : goal.returns
returns c = of_one_stamp
