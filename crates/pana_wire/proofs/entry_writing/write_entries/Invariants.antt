use Rattle.std.proofs.Common.{◌≡◌, ◌++◌, drop, map, take}
use Rattle.std.specs.List.{All}
use Rattle.json.specs.Tree.{items_tokens, json_tokens}
use Rattle.serde_json.specs.Data.{array}
use Rattle.serde_json.specs.View.{items_of}
use Rattle.serde_json.specs.Written.{items_outline, outline}
use Rattle.pana_wire.specs.Report.{entry_data}
use Rattle.pana_wire.specs.inner.LongLine.{IsKnown}
use Rattle.pana_wire.proofs.entry_writing.write_entries.Given as goal

-- with the entries to come the list is whole
abbrev pub invariant-loop-entry : goal.invariant-loop-entry
invariant-loop-entry l =
    (l.out.tokens ++ items_tokens (items_outline (items_of (map entry_data (drop l.entry-index l.fn.entries)))) ≡ l.fn.out.tokens ++ json_tokens (outline (array (items_of (map entry_data l.fn.entries)))))
    × (l.out.before ≡ l.fn.out.before)
    × All IsKnown (take l.entry-index l.fn.entries)
