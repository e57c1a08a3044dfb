use Rattle.pana_hall.proofs.Advised.{rows_few, rows_rise}
use Rattle.pana_hall.proofs.laws.status_rows_rise.Goals as goal

pub returns : goal.returns
returns c = record { rising = λ journal device from accepted. rows_rise journal accepted device from; few = rows_few }
