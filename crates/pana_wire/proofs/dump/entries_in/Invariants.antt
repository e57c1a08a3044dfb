-- The entries are those of the objects so far.
use Rattle.std.proofs.Common.{◌≡◌, map, take, Ok}
use Rattle.serde_json.specs.View.{view}
use Rattle.pana_wire.specs.Dump.{entries_in}
use Rattle.pana_wire.proofs.dump.entries_in.Given as goal

abbrev pub invariant-loop-object : goal.invariant-loop-object
invariant-loop-object l = entries_in (map view (take l.object-index l.objects)) ≡ Ok l.entries.items
