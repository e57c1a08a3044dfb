-- The words of a sighting's decision, by the numbers of copies.
use Rattle.std.specs.Prelude.{ℕ, Bool, false, not, ◌&&◌, ◌||◌, ◌==◌, List, [], ◌∷◌, map, filter, find, Option, Some, None, is_none, is_some, option_map, option_and_then, unwrap_or}
use Rattle.std.specs.Bool.{then_some}
use Rattle.std.specs.Option.{option_or}
use Rattle.std.specs.List.{list_any}
use Rattle.std.specs.Str.{bytes_eq}
use Rattle.pana_copies.specs.declared.place.Place.{Place}
use Rattle.pana_event.specs.declared.rel.Rel.{Rel}
use Rattle.pana_event.specs.declared.rel.Rel.TheVariants as rels
use Rattle.pana_journal.specs.declared.report.Report.TheVariants.{Edit, Reconcile, Merge, Remove, Note}
use Rattle.pana_hall.specs.declared.decision.Decision.{Decision}
use Rattle.pana_hall.specs.declared.decision.Decision.TheVariants.{Known, One, Both}
use Rattle.pana_hall.specs.declared.relating.Relative.{Relative}
use Rattle.pana_hall.specs.Living.{Copy, copy_in, number_of}
use Rattle.pana_hall.specs.Finding.{best, elsewhere, first_or, holds, holds_other, relates_to}
use Rattle.pana_hall.specs.inner.Relatives.{first_number, relates_so}
use Rattle.pana_hall.specs.inner.Rows.{sum_in}

-- whether the copy with the number lives and passes the test
abbrev pub passes : (Copy → Bool) → List Copy → ℕ → Bool
passes test copies number = unwrap_or (option_map test (copy_in copies number)) false

-- whether the other is newer than the copy with the number
abbrev pub is_newer : List Copy → ℕ → ℕ → Bool
is_newer copies number other = passes (λ copy. passes (relates_to rels.Newer copy) copies other) copies number

-- the first of these than which none of these is newer
abbrev pub best_in : List Copy → List ℕ → Option ℕ
best_in copies numbers = find (λ number. not (list_any (is_newer copies number) numbers)) numbers

-- whether it is another that relates so to the copy with the number, and holds the sum
abbrev pub holds_so : List Copy → Rel → List ℕ → ℕ → Relative → Bool
holds_so copies rel sum number it = relates_so rel number it && passes (holds sum) copies it.copy

-- the numbers of those relatives
abbrev pub holders_in : List Copy → Rel → List ℕ → ℕ → List Relative → List ℕ
holders_in copies rel sum number relatives = map (λ it. it.copy) (filter (holds_so copies rel sum number) relatives)

-- whether it is another that equals the copy with the number, and holds bytes other than those with the sum
abbrev pub is_unlike : List Copy → List ℕ → ℕ → Relative → Bool
is_unlike copies sum number it = relates_so rels.Equal number it && passes (holds_other sum) copies it.copy

abbrev pub is_other : ℕ → Relative → Bool
is_other number it = not (it.copy == number)

-- whether it is another that knows all that the copy with the number knows
abbrev pub knows_all : ℕ → Relative → Bool
knows_all number it = relates_so rels.Newer number it || relates_so rels.Equal number it

-- the first such relative, else the first other one
abbrev pub heir_in : ℕ → List Relative → Option ℕ
heir_in number relatives = option_or (first_number (knows_all number) relatives) (first_number (is_other number) relatives)

-- whether the copy is on another device, at the path of the place, and holds the sum
abbrev pub is_elsewhere : Place → List ℕ → Copy → Bool
is_elsewhere place sum copy = bytes_eq copy.place.path place.path && not (bytes_eq copy.place.device place.device) && holds sum copy

-- the copy that a file at the place with the sum was made of: the best of those elsewhere
abbrev pub source_of : List Copy → Place → List ℕ → Option ℕ
source_of copies place sum = option_map number_of (best (elsewhere copies place sum))

-- what is done where the copy with the number isn't known to hold the sum, and no relative that holds it is newer or in conflict
abbrev pub changed_in : List Copy → List ℕ → ℕ → List Relative → Option ℕ → Decision
changed_in copies sum number relatives source =
    let unknown = is_none (sum_in copies number) in
    first_or (One (Edit number (Some sum))) (
    then_some (not (list_any (is_other number) relatives) && is_some source) (One (Remove number None))
    ∷ option_and_then (λ other. then_some unknown (Both (Edit other (sum_in copies other)) (Edit number (Some sum)))) (first_number (is_unlike copies sum number) relatives)
    ∷ then_some unknown (One (Note number sum))
    ∷ []
    )

-- what is done where the file of the copy with the number holds the sum
abbrev pub again_in : List Copy → List ℕ → ℕ → List Relative → Option ℕ → Decision
again_in copies sum number relatives source =
    first_or (changed_in copies sum number relatives source) (
    option_map (λ other. One (Reconcile number other (Some sum))) (best_in copies (holders_in copies rels.Newer sum number relatives))
    ∷ option_map (λ other. One (Merge number other (Some sum))) (best_in copies (holders_in copies rels.Conflict sum number relatives))
    ∷ then_some (passes (holds sum) copies number) (Known (Some number))
    ∷ []
    )
