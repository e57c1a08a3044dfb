use Rattle.pana_text.proofs.Exclusion.{each_has_a_fault}
use Rattle.pana_text.proofs.laws.each_has_a_fault.Goals as goal

pub returns : goal.returns
returns c = each_has_a_fault
