-- What has come of a group that was to be put.
use Rattle.std.proofs.Common.{◌≡◌, ◌⊎◌, ◌<◌, ◌≤◌, ℕ, ◌==◌, List, [], ◌∷◌, length, inl, inr, refl, sym, ap, subst, ◌∙◌}
use Rattle.std.specs.List.{AllByRecursion}
use Rattle.pana_shared.specs.declared.record.Record.{Record}
use Rattle.pana_shared.specs.Log.{Asks, Follows, Grows, HaveSome, IsAt, IsOneOf, LogView, MayAppend, Reads, asked, loose_at, ours}
use Rattle.pana_shared.proofs.Grown.{BeginOtherwise, IsUnused, at_within, grows_on, one_of_kept, others_came, ours_came, some_came}
use Rattle.pana_shared_store.specs.declared.placing.Placed.{Placed}
use Rattle.pana_shared_store.specs.declared.placing.Placed.TheVariants.{Ours, Others, Full}
use Rattle.pana_shared_store.specs.inner.{IsNew, IsPlaced, IsUnusedGroup, Loosens, Places, PlacesNone}

-- what is looked at goes on from what was there
pub looked_on : (old new : LogView) → Reads old new → Follows old new
looked_on old new reads = (ap (λ (v : LogView). v.writer) reads.same, inr (ap (λ (v : LogView). v.at) reads.same, λ group one. subst (λ (l : List (List Record)). IsOneOf group l) (ap (λ (v : LogView). v.loose) reads.same) one))

module _ (old mid : LogView) (at : ℕ) (group : List Record) (may : MayAppend old at group) (some : HaveSome old.loose) (other : IsNew group (loose_at at old)) (unused : IsUnusedGroup group (ours old.writer old.records)) (asks : Asks old at group mid) where
  pub loosens : Loosens old at group mid
  loosens = record {
    writer = ap (λ (v : LogView). v.writer) asks.same;
    place = ap (λ (v : LogView). v.at) asks.same;
    loose = λ g one. by_one g (subst (λ (l : List (List Record)). IsOneOf g l) (ap (λ (v : LogView). v.loose) asks.same) one);
  } where
    by_one : (g : List Record) → IsOneOf g (group ∷ loose_at at old) → IsOneOf g (loose_at at old) ⊎ (g ≡ group)
    by_one g (inl is) = inr is
    by_one g (inr one) = inl one

  came_there : (records page : List Record) (r : Record) (rest : List Record) → group ≡ r ∷ rest → IsAt at (r ∷ page) records → Grows (asked old at group) [] records
      → Grows old group records × IsAt at group records × (length old.records ≤ at) × (at < length records)
  came_there records page r rest is stands grows =
      let own : r.writer ≡ old.writer = (subst (λ (l : List Record). AllByRecursion (λ x. x.writer ≡ old.writer) l) is may.own).0 in
      let grown : Grows (asked old at (r ∷ rest)) [] records = subst (λ (l : List Record). Grows (asked old at l) [] records) is grows in
      let otherwise : BeginOtherwise r (loose_at at old) = λ s others one. other r s rest others is one in
      let none : IsUnused r (ours old.writer old.records) = λ front back. unused r rest front back is in
      let came = ours_came old at r rest records grown page stands own some otherwise none in
      (subst (λ (l : List Record). Grows old l records) (sym is) came.0, subst (λ (l : List Record). IsAt at l records) (sym is) came.1, came.2, at_within at r page records stands)

  -- it was put
  pub was_put : IsAt at group mid.records → Places old at group Ours mid
  was_put stands = by_group group refl where
    by_group : (g : List Record) → g ≡ group → Places old at group Ours mid
    by_group [] is = absurd (may.some (sym is))
    by_group (r ∷ rest) is = let came = came_there mid.records rest r rest (sym is) (subst (λ (l : List Record). IsAt at l mid.records) (sym is) stands) asks.grows in (loosens, came.0, came.1, came.2, came.3)

  -- a page of what stands there begins with its first record, or not
  pub was_found : (page : List Record) → IsAt at page mid.records → (placed : Placed) → IsPlaced page group placed → Places old at group placed mid
  was_found page stands Ours (r, rest, others, is, begins) =
      let came = came_there mid.records others r rest is (subst (λ (l : List Record). IsAt at l mid.records) begins stands) asks.grows in (loosens, came.0, came.1, came.2, came.3)
  was_found page stands (Others given) (r, s, rest, others, is, begins, differs, same) =
      let grown : Grows (asked old at (r ∷ rest)) [] mid.records = subst (λ (l : List Record). Grows (asked old at l) [] mid.records) is asks.grows in (
        loosens,
        others_came old at r rest mid.records grown s others (subst (λ (l : List Record). IsAt at l mid.records) begins stands) differs,
        λ none. (let c : s ∷ others ≡ [] = sym begins ∙ sym same ∙ none in cc),
        subst (λ (l : List Record). IsAt at l mid.records) (sym same) stands,
      )
  was_found page stands Full nothing = absurd nothing

  -- nothing is known of it
  pub is_unknown : PlacesNone old at group mid
  is_unknown = by_group group refl where
    by_group : (g : List Record) → g ≡ group → PlacesNone old at group mid
    by_group [] is = absurd (may.some (sym is))
    by_group (r ∷ rest) is =
        let grown : Grows (asked old at (r ∷ rest)) [] mid.records = subst (λ (l : List Record). Grows (asked old at l) [] mid.records) (sym is) asks.grows in
        let otherwise : BeginOtherwise r (loose_at at old) = λ s others one. other r s rest others (sym is) one in
        (loosens, subst (λ (l : List Record). Grows old [] mid.records ⊎ (Grows old l mid.records × IsAt at l mid.records)) is (some_came old at r rest mid.records grown some otherwise))

-- what was asked for is looked at
pub asks_on : (old mid new : LogView) (at : ℕ) (group : List Record) → MayAppend old at group → HaveSome old.loose → Asks old at group mid → Reads mid new → Asks old at group new
asks_on old mid new at group may some asks reads = record {
  grows = grows_on (asked old at group) mid new.records (ap (λ (v : LogView). v.writer) asks.same, inr (ap (λ (v : LogView). v.at) asks.same, λ g one. subst (λ (l : List (List Record)). IsOneOf g l) (ap (λ (v : LogView). v.loose) asks.same) one)) asks.grows [] some_asked reads.grows;
  same = reads.same ∙ ap (λ (v : LogView). record { records = new.records; writer = v.writer; at = v.at; loose = v.loose }) asks.same;
} where
  some_asked : HaveSome (group ∷ loose_at at old)
  some_asked g (inl is) none = may.some (sym is ∙ none)
  some_asked g (inr one) none = some g ((one_of_kept (old.at == at) g old.loose one).1) none
