use Rattle.std.proofs.Common.{◌≡◌, false, drop}
use Rattle.pana_ignore.specs.Pattern.{applies}
use Rattle.pana_ignore.specs.inner.Verdicts.{verdict}
use Rattle.pana_ignore.proofs.patterns.ignores_here.Given as goal

abbrev pub invariant-loop-pattern : goal.invariant-loop-pattern
invariant-loop-pattern l =
    verdict (applies l.path l.is_folder) false l.patterns ≡ verdict (applies l.path l.is_folder) l.is_ignored (drop l.pattern-index l.patterns)
