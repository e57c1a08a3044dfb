use Rattle.std.proofs.Common.{◌≡◌, ◌++◌, drop, map}
use Rattle.json.specs.Tree.{items_tokens, json_tokens}
use Rattle.serde_json.specs.Data.{array}
use Rattle.serde_json.specs.View.{items_of}
use Rattle.serde_json.specs.Written.{items_outline, outline}
use Rattle.pana_wire.proofs.json_writing.write_list.Given as goal

-- with the items to come the list is whole
abbrev pub invariant-loop-item : goal.invariant-loop-item
invariant-loop-item g l =
    (l.out.tokens ++ items_tokens (items_outline (items_of (map g.T.WriteJson.json (drop l.item-index l.fn.items)))) ≡ l.fn.out.tokens ++ json_tokens (outline (array (items_of (map g.T.WriteJson.json l.fn.items)))))
    × (l.out.before ≡ l.fn.out.before)
