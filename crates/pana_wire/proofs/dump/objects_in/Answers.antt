use Rattle.std.proofs.Common.{◌≡◌, map, Some, option_and_then, true, false, rules, ◌∙◌, arith}
use Rattle.std.proofs.lemmas.Grind.{common_steps}
use Rattle.serde_json.specs.Find.{get, as_array}
use Rattle.serde_json.specs.View.{view, items_of}
use Rattle.pana_wire.specs.declared.field.Field.TheVariants as fields
use Rattle.pana_wire.specs.Field.{field_name}
use Rattle.pana_wire.specs.Dump.{are_objects}
use Rattle.pana_wire.proofs.DumpBack.{objects_found, objects_missing}
use Rattle.pana_wire.proofs.dump.objects_in.Goals as goal

pub returns-then-are_objects : goal.returns-then-are_objects
returns-then-are_objects c =
    let d = view c.args.value.now in
    let ds = map view c.in-Some.values.now.items in
    let found : Some (items_of ds) ≡ option_and_then as_array (get (field_name fields.Entries) d) = search rules in
    let all : are_objects ds ≡ true = grind (arith, common_steps) in
    objects_found d ds found all ∙ grind (arith, common_steps)

pub returns-else-are_objects : goal.returns-else-are_objects
returns-else-are_objects c =
    let d = view c.args.value.now in
    let ds = map view c.in-Some.values.now.items in
    let found : Some (items_of ds) ≡ option_and_then as_array (get (field_name fields.Entries) d) = search rules in
    let some : are_objects ds ≡ false = grind (arith, common_steps) in
    objects_missing d ds found some
