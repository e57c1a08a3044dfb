use Rattle.std.proofs.Common.{◌≡◌, map, Some, rules, arith}
use Rattle.std.proofs.lemmas.Grind.{common_steps}
use Rattle.serde_json.specs.Find.{as_array}
use Rattle.serde_json.specs.View.{view, items_of}
use Rattle.pana_etcd.proofs.Pages.{listed_as}
use Rattle.pana_etcd.proofs.answer.list_of.Goals as goal

pub returns-in-Some-as_array : goal.returns-in-Some-as_array
returns-in-Some-as_array c =
    let d = view c.in-Some.value.now in
    let ds = map view c.as_slice.result.now in
    let found : Some (items_of ds) ≡ as_array d = grind (arith, common_steps) in
    listed_as _ d ds (search rules) found
