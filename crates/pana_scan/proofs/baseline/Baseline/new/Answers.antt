use Rattle.std.proofs.Common.{sym, subst}
use Rattle.pana_scan.specs.Baseline.{MarksRise}
use Rattle.pana_scan.proofs.Order.{nothing_rises}
use Rattle.pana_scan.proofs.baseline.Baseline.new.Goals as goal

pub invariant_of-result : goal.invariant_of-result
invariant_of-result c = subst MarksRise (sym c.new.ensures.items) nothing_rises
