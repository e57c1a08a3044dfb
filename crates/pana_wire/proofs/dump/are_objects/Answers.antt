use Rattle.std.proofs.Common.{rules, tests, is_some, sym, ◌∙◌}
use Rattle.std.proofs.lemmas.Iterator.{YieldsList-from_slice}
use Rattle.std.proofs.lemmas.Iterator.Search.{all_from_yields_List}
use Rattle.std.proofs.lemmas.List.Folds.{list_all-map}
use Rattle.serde_json.specs.Find.{as_object}
use Rattle.serde_json.specs.View.{view}
use Rattle.pana_wire.proofs.dump.are_objects.Goals as goal

pub returns : goal.returns
returns c =
    let xs = c.args.values.now in
    all_from_yields_List (λ v. is_some (as_object (view v))) _ _ c.all.result c.all.ensures.ran (YieldsList-from_slice xs cc) (λ x b q k. search (rules, tests))
    ∙ sym (list_all-map (λ d. is_some (as_object d)) view xs)
