-- How two copies that share what both know relate to the others, as far as the table from before says it.
use Rattle.std.specs.Prelude.{◌≡◌, ◌≢◌, ◌↔◌, ◌&&◌, ◌||◌, not, ℕ, Bool, true, false, List, [], ◌∷◌, None}
use Rattle.pana_event.specs.Event.{Event}
use Rattle.pana_event.specs.Order.{IsBelow}
use Rattle.pana_event.specs.declared.rel.Rel.{Rel}
use Rattle.pana_event.specs.declared.rel.Rel.TheVariants.{Equal, Older, Newer, Conflict}
use Rattle.pana_rel.specs.Pairs.{Table, rel_of}
use Rattle.pana_family.specs.declared.row.StampRow.{StampRow}
use Rattle.pana_family.specs.Table.{In}
use Rattle.pana_family.specs.Rows.{lives}
use Rattle.pana_family.specs.inner.Comparing.{AreCompared, HasCopies}

-- whether a copy that relates so to another knows no more than that one
abbrev pub is_at_most : Rel → Bool
is_at_most Equal = true
is_at_most Older = true
is_at_most Newer = false
is_at_most Conflict = false

-- whether it knows all that the other does
abbrev pub is_at_least : Rel → Bool
is_at_least Equal = true
is_at_least Older = false
is_at_least Newer = true
is_at_least Conflict = false

-- whether what two know that relate so to a copy is no more than that one knows; an update that nobody knew is more
abbrev pub are_below : Bool → Rel → Rel → Bool
are_below updated first second = not updated && (is_at_most first && is_at_most second)

-- whether one of the two knows all that the copy does
abbrev pub is_one_above : Rel → Rel → Bool
is_one_above first second = is_at_least first || is_at_least second

-- the first event is below the second exactly where this is said, and above it at least where that is said
pub record IsDecided (e f : Event) (below above : Bool) : Type 0 where
  pub below_is : (below ≡ true) ↔ IsBelow e f
  pub above_is : above ≡ true → IsBelow f e

-- two copies have one event, of which the table says so much beside each other copy's
pub record AreUnited (updated : Bool) (a b : ℕ) (rows : List StampRow) (pairs : Table) : Type 0 where
  pub same : (x y : StampRow) → In x rows → In y rows → x.copy ≡ a → y.copy ≡ b → x.stamp.event ≡ y.stamp.event
  pub decided : (x y : StampRow) → In x rows → In y rows → y.holder ≡ None → x.copy ≡ a → y.copy ≢ a → y.copy ≢ b
      → IsDecided x.stamp.event y.stamp.event (are_below updated (rel_of pairs a y.copy) (rel_of pairs b y.copy)) (is_one_above (rel_of pairs a y.copy) (rel_of pairs b y.copy))

-- two copies that live have come to share what both knew, and the table is still that from before: it has all copies, and
-- their relations but for those of the two
pub record IsUniting (updated : Bool) (a b : ℕ) (rows : List StampRow) (pairs : Table) : Type 0 where
  pub first : lives rows a ≡ true
  pub second : lives rows b ≡ true
  pub differ : a ≢ b
  pub copies : HasCopies rows pairs
  pub united : AreUnited updated a b rows pairs
  pub rels : AreCompared (a ∷ b ∷ []) rows pairs
