use Rattle.std.proofs.Common.{◌≡◌, take}
use Rattle.pana_report.specs.Status.{words_of}
use Rattle.pana_report.proofs.limits.words_of.Given as goal

abbrev pub invariant-loop-row : goal.invariant-loop-row
invariant-loop-row l = l.words ≡ words_of (take l.row-index l.rows)
