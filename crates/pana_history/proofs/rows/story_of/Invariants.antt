use Rattle.std.proofs.Common.{◌≡◌, map, take}
use Rattle.pana_history.specs.inner.Story.{story_row}
use Rattle.pana_history.proofs.Story.{lanes_so_far}
use Rattle.pana_history.proofs.rows.story_of.Given as goal

abbrev pub invariant-loop-entry : goal.invariant-loop-entry
invariant-loop-entry l = record {
  rows : l.rows.items ≡ map (story_row l.own) (take l.entry-index l.own);
  lanes : l.lanes.items ≡ lanes_so_far l.own (take l.entry-index l.own);
}
