-- Two lists side by side, and the index of their devices.
use Rattle.std.specs.Prelude.{ℕ, List}
use Rattle.pana_copies.specs.declared.place.Place.{Place}
use Rattle.pana_copies.specs.inner.Counts.{AreCounted}
use Rattle.pana_copies.specs.inner.Sides.{IsEven}

-- both sides are even, and the devices are counted by their places
pub record IsIndexed (families : List (ℕ × ℕ)) (places : List Place) (counts : List (List ℕ × ℕ)) : Type 0 where
  pub even : IsEven families places
  pub counted : AreCounted counts places
