-- What two lists side by side give: keys, entries, one more at the end, and one taken out.
use Rattle.std.proofs.Common.{◌≡◌, ℕ, zero, suc, ◌-◌, List, [], ◌∷◌, ◌++◌, length, get_or, set, take, slice_get, Some, refl, sym, ap, ◌∙◌, arith}
use Rattle.std.specs.List.{swap_remove}
use Rattle.std.specs.Map.{keys_of}
use Rattle.pana_copies.specs.declared.place.Place.{Place}
use Rattle.pana_copies.specs.Spots.{Spot}
use Rattle.pana_copies.specs.inner.Sides.{spots_of}

-- a copy with its family and its place
abbrev pub spotted : ℕ × ℕ → Place → ℕ × Spot
spotted e place = (e.0, record { family = e.1; place = place })

pub keys_of-spots : (es : List (ℕ × ℕ)) (ps : List Place) → length ps ≡ length es → keys_of (spots_of es ps) ≡ keys_of es
keys_of-spots [] ps even = refl
keys_of-spots (e ∷ es) [] even = absurd (omega arith)
keys_of-spots (e ∷ es) (p ∷ ps) even = ap (λ l. e.0 ∷ l) (keys_of-spots es ps (omega arith))

pub length-spots : (es : List (ℕ × ℕ)) (ps : List Place) → length ps ≡ length es → length (spots_of es ps) ≡ length es
length-spots [] ps even = refl
length-spots (e ∷ es) [] even = absurd (omega arith)
length-spots (e ∷ es) (p ∷ ps) even = ap suc (length-spots es ps (omega arith))

pub spots_of-push : (es : List (ℕ × ℕ)) (ps : List Place) (e : ℕ × ℕ) (p : Place) → length ps ≡ length es
    → spots_of (es ++ e ∷ []) (ps ++ p ∷ []) ≡ spots_of es ps ++ spotted e p ∷ []
spots_of-push [] [] e p even = refl
spots_of-push [] (q ∷ ps) e p even = absurd (omega arith)
spots_of-push (d ∷ es) [] e p even = absurd (omega arith)
spots_of-push (d ∷ es) (q ∷ ps) e p even = ap (λ l. spotted d q ∷ l) (spots_of-push es ps e p (omega arith))

-- the spot at an index, from both sides
pub slice_get-spots : (es : List (ℕ × ℕ)) (ps : List Place) (i : ℕ) (e : ℕ × ℕ) (p : Place) → slice_get es i ≡ Some e → slice_get ps i ≡ Some p
    → slice_get (spots_of es ps) i ≡ Some (spotted e p)
slice_get-spots [] ps i e p first second = absurd (cc)
slice_get-spots (d ∷ es) [] i e p first second = absurd (cc)
slice_get-spots (d ∷ es) (q ∷ ps) zero e p first second =
    let one : d ≡ e = cc in
    let two : q ≡ p = cc in
    λ j. Some (spotted (one j) (two j))
slice_get-spots (d ∷ es) (q ∷ ps) (suc i) e p first second = slice_get-spots es ps i e p first second

-- and both sides, from the spot
pub sides-slice_get : (es : List (ℕ × ℕ)) (ps : List Place) (i : ℕ) (x : ℕ × Spot) → slice_get (spots_of es ps) i ≡ Some x
    → (slice_get es i ≡ Some (x.0, x.1.family)) × (slice_get ps i ≡ Some x.1.place)
sides-slice_get [] ps i x at = absurd (cc)
sides-slice_get (e ∷ es) [] i x at = absurd (cc)
sides-slice_get (e ∷ es) (p ∷ ps) zero x at =
    let same : spotted e p ≡ x = cc in
    (λ j. Some ((same j).0, (same j).1.family), λ j. Some (same j).1.place)
sides-slice_get (e ∷ es) (p ∷ ps) (suc i) x at = sides-slice_get es ps i x at

spots_of-empty : (es : List (ℕ × ℕ)) → spots_of es [] ≡ []
spots_of-empty [] = refl
spots_of-empty (e ∷ es) = refl

spots_of-take : (n : ℕ) (es : List (ℕ × ℕ)) (ps : List Place) → spots_of (take n es) (take n ps) ≡ take n (spots_of es ps)
spots_of-take zero es ps = refl
spots_of-take (suc n) [] ps = refl
spots_of-take (suc n) (e ∷ es) [] = refl
spots_of-take (suc n) (e ∷ es) (p ∷ ps) = ap (λ l. spotted e p ∷ l) (spots_of-take n es ps)

spots_of-set : (es : List (ℕ × ℕ)) (ps : List Place) (i : ℕ) (e : ℕ × ℕ) (p : Place) → spots_of (set es i e) (set ps i p) ≡ set (spots_of es ps) i (spotted e p)
spots_of-set [] ps i e p = refl
spots_of-set (d ∷ es) [] i e p = spots_of-empty (set (d ∷ es) i e)
spots_of-set (d ∷ es) (q ∷ ps) zero e p = refl
spots_of-set (d ∷ es) (q ∷ ps) (suc i) e p = ap (λ l. spotted d q ∷ l) (spots_of-set es ps i e p)

get_or-spots : (es : List (ℕ × ℕ)) (ps : List Place) (i : ℕ) (e : ℕ × ℕ) (p : Place) → length ps ≡ length es
    → spotted (get_or es i e) (get_or ps i p) ≡ get_or (spots_of es ps) i (spotted e p)
get_or-spots [] [] i e p even = refl
get_or-spots [] (q ∷ ps) i e p even = absurd (omega arith)
get_or-spots (d ∷ es) [] i e p even = absurd (omega arith)
get_or-spots (d ∷ es) (q ∷ ps) zero e p even = refl
get_or-spots (d ∷ es) (q ∷ ps) (suc i) e p even = get_or-spots es ps i e p (omega arith)

-- where the last takes the place of one on both sides, it does so among the spots
pub spots_of-swap_remove : (es : List (ℕ × ℕ)) (ps : List Place) (i : ℕ) (e : ℕ × ℕ) (p : Place) → length ps ≡ length es
    → spots_of (swap_remove es i e) (swap_remove ps i p) ≡ swap_remove (spots_of es ps) i (spotted e p)
spots_of-swap_remove es ps i e p even =
    let n = length es - 1 in
    ap (λ m. spots_of (swap_remove es i e) (take (m - 1) (set ps i (get_or ps (m - 1) p)))) even
    ∙ spots_of-take n _ _
    ∙ ap (take n) (spots_of-set es ps i _ _ ∙ ap (set (spots_of es ps) i) (get_or-spots es ps n e p even))
    ∙ ap (λ m. take (m - 1) (set (spots_of es ps) i (get_or (spots_of es ps) (m - 1) (spotted e p)))) (sym (length-spots es ps even))
