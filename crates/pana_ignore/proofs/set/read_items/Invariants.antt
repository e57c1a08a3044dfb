use Rattle.std.proofs.Common.{◌≡◌, ◌≤◌, ◌-◌, length}
use Rattle.pana_ignore.specs.declared.set_item.Before.TheVariants.{Start}
use Rattle.pana_ignore.specs.Spelling.{items_behind}
use Rattle.pana_ignore.specs.inner.Reading.{with_items}
use Rattle.pana_ignore.proofs.set.read_items.Given as goal

abbrev pub invariant-loop-byte : goal.invariant-loop-byte
invariant-loop-byte l = record {
  read : items_behind 0 Start l.text ≡ with_items l.items.items (length l.text - length l.rest) (items_behind 0 l.before l.rest);
  within : length l.rest ≤ length l.text;
}

abbrev pub decreases-loop-byte : goal.decreases-loop-byte
decreases-loop-byte l = length l.rest
