use Rattle.pana_report.proofs.Numbers.{numbers_are_as_wide_as_long}
use Rattle.pana_report.proofs.laws.numbers_are_as_wide_as_long.Goals as goal

pub returns : goal.returns
returns c = numbers_are_as_wide_as_long
