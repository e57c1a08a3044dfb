use Rattle.std.proofs.Common.{◌≡◌, true, take, drop}
use Rattle.std.specs.List.{list_any}
use Rattle.pana_ignore.specs.Pattern.{ignores_here, folders_above, folders_from}
use Rattle.pana_ignore.proofs.patterns.is_below_ignored.Given as goal

abbrev pub invariant-loop-i : goal.invariant-loop-i
invariant-loop-i l =
    list_any (λ folder. ignores_here l.patterns folder true) (folders_above l.path)
    ≡ list_any (λ folder. ignores_here l.patterns folder true) (folders_from (take l.i l.path) (drop l.i l.path))
