use Rattle.std.proofs.Common.{◌≡◌, ◌≤◌, false, true, drop}
use Rattle.pana_ignore.specs.inner.Kept.{kept, kept_behind}
use Rattle.pana_ignore.proofs.lines.trimmed.Given as goal

abbrev pub invariant-loop-i : goal.invariant-loop-i
invariant-loop-i l = record {
  kept : kept false l.text ≡ kept_behind l.end l.i l.is_quoted (drop l.i l.text);
  within : l.end ≤ l.i;
  quoted : l.is_quoted ≡ true → l.end ≡ l.i;
}
