use Rattle.pana_hall.proofs.Advised.{rows_advise}
use Rattle.pana_hall.proofs.laws.overwriting_loses_no_update.Goals as goal

pub returns : goal.returns
returns c = λ journal device from accepted. rows_advise journal accepted device from
