use Rattle.std.proofs.Common.{◌≡◌, ℕ, false, nat_eq, take}
use Rattle.std.specs.Prelude.{unwrap_or}
use Rattle.indexmap.specs.IndexMap.{get}
use Rattle.pana_watch.specs.Watch.{splits}
use Rattle.pana_watch.proofs.beginning.splits_of.Given as goal

abbrev pub invariant-loop-row : goal.invariant-loop-row
invariant-loop-row l = (family : ℕ) → unwrap_or (get nat_eq l.known family) false ≡ splits (take l.row-index l.rows) family
