use Rattle.pana_ticks.proofs.Steps.{opens}
use Rattle.pana_ticks.proofs.ticks.Ticks.new.Goals as goal

pub of_words-requires : goal.of_words-requires
of_words-requires c = opens
