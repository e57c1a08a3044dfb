use Rattle.pana_text.proofs.Exclusion.{faults_exclude}
use Rattle.pana_text.proofs.laws.faults_exclude_each_other.Goals as goal

pub returns : goal.returns
returns c = faults_exclude
