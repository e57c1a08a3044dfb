-- The bytes by which the copies of a device are found.
use Rattle.std.proofs.Common.{◌≡◌, ℕ, zero, suc, ◌-◌, List, [], ◌∷◌, ◌++◌, length, get_or, map, set, take, slice_get, Some, option_map, refl, sym, ap, ◌∙◌}
use Rattle.std.specs.List.{swap_remove}
use Rattle.std.proofs.lemmas.List.{length-map, map-append, map-set, take-map}
use Rattle.std.proofs.lemmas.Option.{slice_get-map}
use Rattle.pana_copies.specs.declared.place.Place.{Place}
use Rattle.pana_copies.specs.inner.Marks.{AreMarks, mark_of}

-- one place more
pub marks_more : (marks : List ℕ) (places : List Place) (place : Place) → AreMarks marks places → AreMarks (marks ++ mark_of place.device ∷ []) (places ++ place ∷ [])
marks_more marks places place are = ap (λ l. l ++ mark_of place.device ∷ []) are ∙ sym (map-append (λ (p : Place). mark_of p.device) places (place ∷ []))

get_or-map : {X Y : Type 0} (f : X → Y) (xs : List X) (i : ℕ) (d : X) → get_or (map f xs) i (f d) ≡ f (get_or xs i d)
get_or-map f [] i d = refl
get_or-map f (x ∷ xs) zero d = refl
get_or-map f (x ∷ xs) (suc i) d = get_or-map f xs i d

-- one place fewer, and the last at its index
swap_remove-map : {X Y : Type 0} (f : X → Y) (xs : List X) (i : ℕ) (x : X) → swap_remove (map f xs) i (f x) ≡ map f (swap_remove xs i x)
swap_remove-map f xs i x =
    let last = get_or xs (length xs - 1) x in
    ap (λ n. take (n - 1) (set (map f xs) i (get_or (map f xs) (n - 1) (f x)))) (length-map xs f)
    ∙ ap (λ y. take (length xs - 1) (set (map f xs) i y)) (get_or-map f xs (length xs - 1) x)
    ∙ ap (take (length xs - 1)) (sym (map-set f xs i last))
    ∙ take-map f (length xs - 1) (set xs i last)

pub marks_fewer : (marks : List ℕ) (places : List Place) (i : ℕ) (place : Place) (mark : ℕ) → AreMarks marks places → mark ≡ mark_of place.device → AreMarks (swap_remove marks i mark) (swap_remove places i place)
marks_fewer marks places i place mark are is =
    ap (λ m. swap_remove marks i m) is ∙ ap (λ l. swap_remove l i (mark_of place.device)) are ∙ swap_remove-map (λ (p : Place). mark_of p.device) places i place

-- the mark of the place at an index
pub mark_there : (marks : List ℕ) (places : List Place) (i : ℕ) (place : Place) → AreMarks marks places → slice_get places i ≡ Some place → slice_get marks i ≡ Some (mark_of place.device)
mark_there marks places i place are at = ap (λ l. slice_get l i) are ∙ slice_get-map (λ (p : Place). mark_of p.device) places i ∙ ap (option_map (λ (p : Place). mark_of p.device)) at
