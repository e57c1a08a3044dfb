use Rattle.std.proofs.Common.{◌≡◌, ℕ, ◌+◌, cond, nat_eq, List, [], ◌∷◌, ◌++◌, map, OnOk, Some, None, sym, subst, ap, ◌∙◌}
use Rattle.std.specs.Map.{lookup}
use Rattle.std.specs.Str.{bytes_eq}
use Rattle.indexmap.specs.IndexMap.{insert_entry}
use Rattle.indexmap.specs.IndexSet.{insert_key}
use Rattle.pana_copies.specs.Places.{same_place}
use Rattle.pana_copies.specs.Spots.{kept, place_of}
use Rattle.pana_copies.specs.inner.Counts.{counted, AreCounted}
use Rattle.pana_copies.proofs.Counts.{counted_more}
use Rattle.pana_copies.specs.inner.Marks.{mark_of}
use Rattle.pana_copies.proofs.Kept.{pushed, Pushed}
use Rattle.pana_copies.proofs.Marks.{marks_more}
use Rattle.pana_copies.proofs.copy_table.CopyTable.insert.Goals as goal

-- what the two sides are once both calls have returned
after : (c : goal.After-unwrap-2) → Pushed c.self.inside.families.entries c.self.inside.places.keys c.args.copy c.args.family c.args.place c.insert.new.self.entries c.insert-2.new.self.keys
unfolding kept
after c =
    pushed c.self.inside.families.entries c.self.inside.places.keys c.self.invariant.0.even c.args.copy c.args.family c.args.place
    (subst (λ t. kept t c.args.copy ≡ None) (sym c.self.view_is) c.requires.new)
    (subst (λ t. (number : ℕ) → ¬ (place_of t number ≡ Some c.args.place)) (sym c.self.view_is) c.requires.free)
    c.insert.new.self.entries c.insert-2.new.self.keys
    (subst (λ r. OnOk r (c.insert.new.self.entries ≡ insert_entry nat_eq c.self.inside.families.entries c.args.copy c.args.family)) c.unwrap.ensures c.insert.ensures.entries)
    (subst (λ r. OnOk r (c.insert-2.new.self.keys ≡ insert_key same_place c.self.inside.places.keys c.args.place)) c.unwrap-2.ensures c.insert-2.ensures.keys)
    c.insert.ensures.unique c.insert-2.ensures.unique

pub invariant_of-self : goal.invariant_of-self
invariant_of-self c =
    let counts = c.self.inside.devices.entries in
    let more = c.count_up.new.counts.entries in
    let device = c.copy_of.ensures in
    let says = λ (other : List ℕ). c.count_up.ensures.counts other ∙ (λ j. cond (bytes_eq (device j) other) (Some (counted counts (device j) + 1)) (lookup (bytes_eq other) counts)) in
    let marks = c.self.inside.marks.items in (
      record { even = (after c).even; counted = subst (AreCounted more) (sym (after c).places) (counted_more counts more c.self.inside.places.keys c.args.place c.self.invariant.0.counted says) },
      c.push_reserved.ensures.items ∙ ap (λ mark. marks ++ mark ∷ []) c.mark.ensures
          ∙ marks_more marks c.self.inside.places.keys c.args.place c.self.invariant.1 ∙ ap (map (λ place. mark_of place.device)) (sym (after c).places),
    )

pub returns-clause-spots : goal.returns-clause-spots
unfolding kept
returns-clause-spots c = rw (← c.self.view_is) (after c).spots
