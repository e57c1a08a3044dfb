-- What a sighting comes to: the decision on the living copies.
use Rattle.std.specs.Prelude.{ℕ, Bool, true, false, not, ◌&&◌, ◌==◌, List, [], ◌∷◌, filter, find, Option, Some, None, is_none, option_map, option_and_then, unwrap_or}
use Rattle.std.specs.Prelude.{◌||◌}
use Rattle.std.specs.Option.{option_or}
use Rattle.std.specs.Bool.{then_some}
use Rattle.std.specs.List.{list_any}
use Rattle.std.specs.Str.{bytes_eq}
use Rattle.pana_copies.specs.declared.place.Place.{Place}
use Rattle.pana_copies.specs.Places.{same_place}
use Rattle.pana_event.specs.declared.rel.Rel.TheVariants as rels
use Rattle.pana_event.specs.declared.rel.Rel.{Rel}
use Rattle.pana_rel.specs.Board.{is_rel}
use Rattle.pana_journal.specs.declared.report.Report.TheVariants.{Register, Duplicate, Edit, Reconcile, Merge, Remove, Note}
use Rattle.pana_calls.specs.declared.call.Sighting.{Sighting}
use Rattle.pana_calls.specs.declared.call.Sighting.TheVariants.{Found, Missing}
use Rattle.pana_hall.specs.declared.decision.Decision.{Decision}
use Rattle.pana_hall.specs.declared.decision.Decision.TheVariants.{Known, One, Both}
use Rattle.pana_hall.specs.Living.{Copy, number_of, sum_of}
use Rattle.pana_hall.specs.Board.{is_of}
use Rattle.pana_hall.specs.Status.{copy_relation}

-- whether the copy holds bytes with this sum, or others with another, as far as is known
abbrev pub holds : List ℕ → Copy → Bool
holds sum copy = unwrap_or (option_map (bytes_eq sum) (sum_of copy)) false

abbrev pub holds_other : List ℕ → Copy → Bool
holds_other sum copy = unwrap_or (option_map (λ s. not (bytes_eq sum s)) (sum_of copy)) false

-- whether it is of the copy's family, and relates so to it
abbrev pub relates_to : Rel → Copy → Copy → Bool
relates_to rel copy other = is_of copy.family other && is_rel (copy_relation other copy) rel

-- the living copy at a place, if there is one
abbrev pub copy_at : List Copy → Place → Option Copy
copy_at copies place = find (λ copy. same_place copy.place place) copies

-- the other copies of a copy's family
abbrev pub others : List Copy → Copy → List Copy
others copies copy = filter (λ other. is_of copy.family other && not (number_of other == number_of copy)) copies

-- those copies with the path of the place, on other devices, that hold the sum
abbrev pub elsewhere : List Copy → Place → List ℕ → List Copy
elsewhere copies place sum = filter (λ copy. bytes_eq copy.place.path place.path && not (bytes_eq copy.place.device place.device) && holds sum copy) copies

-- the first of these than which none of these is newer
abbrev pub best : List Copy → Option Copy
best copies = find (λ copy. not (list_any (relates_to rels.Newer copy) copies)) copies

-- the first of these decisions that is made, or else the last
abbrev pub first_or : Decision → List (Option Decision) → Decision
first_or last [] = last
first_or last (None ∷ decisions) = first_or last decisions
first_or last (Some decision ∷ decisions) = decision

-- the file of a living copy holds the sum
abbrev pub found_again : List Copy → List ℕ → Copy → Decision
found_again copies sum copy =
    let others_with = filter (holds sum) (others copies copy) in
    let unknown = is_none (sum_of copy) in
    let n = number_of copy in
    first_or (One (Edit n (Some sum))) (
    option_map (λ other. One (Reconcile n (number_of other) (Some sum))) (best (filter (relates_to rels.Newer copy) others_with))
    ∷ option_map (λ other. One (Merge n (number_of other) (Some sum))) (best (filter (relates_to rels.Conflict copy) others_with))
    ∷ then_some (holds sum copy) (Known (Some n))
    ∷ option_and_then (λ other. then_some (is_empty (others copies copy)) (One (Remove n None))) (best (elsewhere copies copy.place sum))
    ∷ option_and_then (λ other. then_some unknown (Both (Edit (number_of other) (sum_of other)) (Edit n (Some sum)))) (find (λ other. relates_to rels.Equal copy other && holds_other sum other) (others copies copy))
    ∷ then_some unknown (One (Note n sum))
    ∷ []
    )
  where
    is_empty : List Copy → Bool
    is_empty [] = true
    is_empty (copy ∷ copies) = false

-- a file at a place where no copy is
abbrev pub found_new : List Copy → Place → List ℕ → Decision
found_new copies place sum = first_or (One (Register place (Some sum))) (option_map (λ source. One (Duplicate (number_of source) place (Some sum))) (best (elsewhere copies place sum)) ∷ [])

-- a file with this sum was found at the place
unfoldable pub found : List Copy → Place → List ℕ → Decision
found copies place sum = unwrap_or (option_map (found_again copies sum) (copy_at copies place)) (found_new copies place sum)

-- the heir of a copy that is no more: the first other one that knows all that it knows, else the first other one
abbrev pub heir_of : List Copy → Copy → Option ℕ
heir_of copies copy =
    let knows_all : Copy → Bool = λ other. relates_to rels.Newer copy other || relates_to rels.Equal copy other in
    option_map number_of (option_or (find knows_all (others copies copy)) (find (λ other. true) (others copies copy)))

-- no file is at the place
unfoldable pub missing : List Copy → Place → Decision
missing copies place = unwrap_or (option_map (λ copy. One (Remove (number_of copy) (heir_of copies copy))) (copy_at copies place)) (Known None)

-- what is done of a sighting
abbrev pub decision : List Copy → Sighting → Decision
decision copies (Found place sum) = found copies place sum
decision copies (Missing place) = missing copies place
