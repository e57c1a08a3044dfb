use Rattle.pana_ask.proofs.Spelled.{found_named}
use Rattle.pana_ask.proofs.report_word.ReportWord.of.Goals as goal

pub returns-clause-named : goal.returns-clause-named
returns-clause-named c = found_named c.args.text.now c.word_of.result c.word_of.ensures
