use Rattle.pana_report.proofs.Fit.{lines_fit}
use Rattle.pana_report.proofs.laws.lines_fit.Goals as goal

pub returns : goal.returns
returns c = lines_fit
