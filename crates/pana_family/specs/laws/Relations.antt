-- What a relation says of two sets.
use Rattle.std.specs.Prelude.{◌≡◌, ◌↔◌, ℕ, List}
use Rattle.pana_event.specs.declared.rel.Rel.TheVariants.{Equal, Older, Newer, Conflict}
use Rattle.pana_family.specs.Updates.{IsSubset}
use Rattle.pana_family.specs.Relation.{relation}

-- the relation says how the sets lie by their members, and nothing else of them
pub record RelatesSets (a b : List ℕ) : Type 0 where
  pub equal : (relation a b ≡ Equal) ↔ (IsSubset a b × IsSubset b a)
  pub older : (relation a b ≡ Older) ↔ (IsSubset a b × ¬ IsSubset b a)
  pub newer : (relation a b ≡ Newer) ↔ (IsSubset b a × ¬ IsSubset a b)
  pub conflict : (relation a b ≡ Conflict) ↔ (¬ IsSubset a b × ¬ IsSubset b a)
