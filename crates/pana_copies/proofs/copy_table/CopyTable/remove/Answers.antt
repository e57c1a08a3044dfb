use Rattle.std.proofs.Common.{◌≡◌, ◌<◌, length, map, is_some, IsSome, IfSome, sym, subst, ap, ◌∙◌, arith}
use Rattle.std.specs.List.{swap_remove}
use Rattle.pana_copies.specs.Spots.{kept}
use Rattle.pana_copies.specs.inner.Counts.{AreCounted}
use Rattle.pana_copies.proofs.Counts.{counted_fewer}
use Rattle.std.proofs.lemmas.Option.{get_or_from_slice_get}
use Rattle.pana_copies.specs.inner.Marks.{mark_of}
use Rattle.pana_copies.proofs.Marks.{mark_there, marks_fewer}
use Rattle.pana_copies.proofs.Kept.{some-spots, some_within, index_within, taken, Taken}
use Rattle.pana_copies.proofs.copy_table.CopyTable.remove.Goals as goal

pub unwrap-index-requires : goal.unwrap-index-requires
unfolding kept
unwrap-index-requires c =
    let lives = subst (λ t. IsSome (kept t c.args.copy)) (sym c.self.view_is) c.requires.lives in
    c.get_index_of.ensures.found ∙ sym (some-spots _ _ c.self.invariant.0.even _) ∙ lives

pub unwrap-requires : goal.unwrap-requires
unwrap-requires c =
    let es = c.self.inside.families.entries in
    let within : c.unwrap-index.result < length es = index_within c.unwrap-index.ensures c.get_index_of.ensures.within in
    ap is_some c.swap_remove_index.ensures.entry ∙ some_within es c.unwrap-index.result within

pub unwrap-place-requires : goal.unwrap-place-requires
unwrap-place-requires c =
    let ps = c.self.inside.places.keys in
    let within : c.unwrap-index.result < length c.self.inside.families.entries = index_within c.unwrap-index.ensures c.get_index_of.ensures.within in
    ap is_some c.swap_remove_index-2.ensures.key ∙ some_within ps c.unwrap-index.result (omega (arith, within, c.self.invariant.0.even.long))

-- what the two sides are once both calls have returned
after : (c : goal.After-count_down) → Taken c.self.inside.families.entries c.self.inside.places.keys c.args.copy c.unwrap-place.result c.swap_remove_index.new.self.entries c.swap_remove_index-2.new.self.keys
after c =
    let es = c.self.inside.families.entries in
    let ps = c.self.inside.places.keys in
    let i = c.unwrap-index.result in
    taken es ps c.self.invariant.0.even c.args.copy i c.unwrap.result c.unwrap-place.result
    (sym c.get_index_of.ensures.index ∙ c.unwrap-index.ensures) (sym c.swap_remove_index.ensures.entry ∙ c.unwrap.ensures) (sym c.swap_remove_index-2.ensures.key ∙ c.unwrap-place.ensures)
    c.swap_remove_index.new.self.entries c.swap_remove_index-2.new.self.keys
    (subst (λ r. IfSome r (λ e. c.swap_remove_index.new.self.entries ≡ swap_remove es i e)) c.unwrap.ensures c.swap_remove_index.ensures.entries)
    (subst (λ r. IfSome r (λ p. c.swap_remove_index-2.new.self.keys ≡ swap_remove ps i p)) c.unwrap-place.ensures c.swap_remove_index-2.ensures.keys)
    c.swap_remove_index.ensures.unique c.swap_remove_index-2.ensures.unique

pub invariant_of-self : goal.invariant_of-self
invariant_of-self c =
    let ps = c.self.inside.places.keys in
    let i = c.unwrap-index.result in
    let p = c.unwrap-place.result in
    let fewer = c.count_down.new.counts.entries in
    let places : c.swap_remove_index-2.new.self.keys ≡ swap_remove ps i p = subst (λ r. IfSome r (λ q. c.swap_remove_index-2.new.self.keys ≡ swap_remove ps i q)) c.unwrap-place.ensures c.swap_remove_index-2.ensures.keys in
    let at = sym c.swap_remove_index-2.ensures.key ∙ c.unwrap-place.ensures in
    let marks = c.self.inside.marks.items in
    let mark = c.swap_remove.result in
    let is : mark ≡ mark_of p.device = c.swap_remove.ensures.value ∙ get_or_from_slice_get marks i _ mark (mark_there marks ps i p c.self.invariant.1 at) in (
      record {
        even = (after c).even;
        counted = subst (AreCounted fewer) (sym places)
            (counted_fewer c.self.inside.devices.entries fewer ps i p c.self.invariant.0.counted at c.count_down.ensures.counts);
      },
      c.swap_remove.ensures.items ∙ marks_fewer marks ps i p mark c.self.invariant.1 is ∙ ap (map (λ place. mark_of place.device)) (sym places),
    )

pub returns-clause-spots : goal.returns-clause-spots
unfolding kept
returns-clause-spots c = rw (← c.self.view_is) (after c).spots

pub returns-clause-old : goal.returns-clause-old
unfolding kept
returns-clause-old c = rw (← c.self.view_is) (after c).old
