use Rattle.std.proofs.Common.{◌≡◌, ◌==◌, ◌≤◌, [], ◌∷◌, drop, length}
use Rattle.pana_ignore.specs.Match.{split}
use Rattle.pana_ignore.proofs.split.split_last.Given as goal

abbrev pub invariant-loop-start : goal.invariant-loop-start
invariant-loop-start l = record {
  within : l.start ≤ length l.text;
  apart : split (λ b. b == l.separator) (drop l.start l.text) ≡ drop l.start l.text ∷ [];
}

abbrev pub decreases-loop-start : goal.decreases-loop-start
decreases-loop-start l = l.start
