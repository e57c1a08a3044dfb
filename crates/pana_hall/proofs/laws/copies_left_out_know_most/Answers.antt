use Rattle.pana_hall.proofs.Advised.{left_out_knows}
use Rattle.pana_hall.proofs.laws.copies_left_out_know_most.Goals as goal

pub returns : goal.returns
returns c = λ journal device from copy accepted. left_out_knows journal accepted device from copy
