use Rattle.pana_report.proofs.Cuts.{fitted_texts_fit}
use Rattle.pana_report.proofs.laws.fitted_texts_fit.Goals as goal

pub returns : goal.returns
returns c = fitted_texts_fit
