-- Lines that fit.
use Rattle.std.proofs.Common.{◌≡◌, ℕ, zero, suc, ◌+◌, ◌-◌, ◌<◌, ◌≤◌, max, List, [], ◌∷◌, length, map, fold, get_or, Some, None, refl, sym, ap, subst, inl, inr, arith}
use Rattle.std.specs.Prelude.{◌⊎◌}
use Rattle.pana_calls.specs.declared.standing.PlacedCopy.{PlacedCopy}
use Rattle.pana_calls.specs.declared.standing.StatusRow.{StatusRow}
use Rattle.pana_report.specs.Columns.{width, widest, place_text}
use Rattle.pana_report.specs.Fitted.{fitted, share}
use Rattle.pana_report.specs.Status.{copy_place, left_for, newest_place, others_width, places_width, words_of, words_width}
use Rattle.pana_report.specs.laws.Fits.{IsCut, LinesFit}
use Rattle.pana_report.proofs.Cuts.{fitted_texts_fit}

-- ---- the greatest of some numbers

module _ {Row : Type 0} where
  least_of : (f : Row → ℕ) (least : ℕ) (rows : List Row) → least ≤ fold max least (map f rows)
  least_of f least [] = omega arith
  least_of f least (row ∷ rows) = omega (arith, least_of f (max least (f row)) rows)

  -- each is at most the greatest
  one_of : (f : Row → ℕ) (least : ℕ) (rows : List Row) (k : ℕ) (d : Row) → k < length rows → f (get_or rows k d) ≤ fold max least (map f rows)
  one_of f least [] k d within = absurd (omega arith)
  one_of f least (row ∷ rows) zero d within = omega (arith, least_of f (max least (f row)) rows)
  one_of f least (row ∷ rows) (suc k) d within = one_of f (max least (f row)) rows k d (omega arith)

  -- where each is at most so much, so is the greatest
  all_below : (f : Row → ℕ) (least bound : ℕ) (rows : List Row) → least ≤ bound → ((row : Row) → f row ≤ bound) → fold max least (map f rows) ≤ bound
  all_below f least bound [] below each = below
  all_below f least bound (row ∷ rows) below each = let here = each row in all_below f (max least (f row)) bound rows (omega arith) each

  -- where each is at most the other's, so is the greatest
  each_below : (f g : Row → ℕ) (a b : ℕ) (rows : List Row) → a ≤ b → ((row : Row) → f row ≤ g row) → fold max a (map f rows) ≤ fold max b (map g rows)
  each_below f g a b [] below each = below
  each_below f g a b (row ∷ rows) below each = let here = each row in each_below f g (max a (f row)) (max b (g row)) rows (omega arith) each

-- ---- a text that fits

by_fit : (most : ℕ) (text short : List ℕ) → ((width text ≤ most) × (short ≡ text)) ⊎ ((most < width text) × (width short ≤ most) × IsCut text short) → (width short ≤ most) × (width short ≤ width text)
by_fit most text short (inl (fits, same)) = let w = ap width same in (omega (arith, w), omega (arith, w))
by_fit most text short (inr (long, fits, cut)) = (fits, omega arith)

fits : (most : ℕ) (text : List ℕ) → 1 ≤ most → (width (fitted (Some most) text) ≤ most) × (width (fitted (Some most) text) ≤ width text)
fits most text one = by_fit most text (fitted (Some most) text) (fitted_texts_fit most text one)

-- ---- two columns of places

whole : (text : List ℕ) → fitted None text ≡ text
unfolding fitted
whole text = refl

module _ (rows : List StatusRow) (newest : List PlacedCopy) (most : ℕ) (room : 12 ≤ most) where
  below : (text : List ℕ) → width (fitted (Some most) text) ≤ most
  below text = (fits most text (omega arith)).0

  less : (text : List ℕ) → width (fitted (Some most) text) ≤ width (fitted None text)
  less text = subst (λ (all : List ℕ). width (fitted (Some most) text) ≤ width all) (sym (whole text)) (fits most text (omega arith)).1

  places_below : places_width (Some most) rows newest ≤ most
  places_below =
      all_below (λ (copy : PlacedCopy). width (newest_place (Some most) copy)) (widest 4 (copy_place (Some most)) rows) most newest
      (all_below (λ (row : StatusRow). width (copy_place (Some most) row)) 4 most rows (omega arith) (λ row. below (place_text row.place)))
      (λ copy. below (place_text copy.place))

  places_less : places_width (Some most) rows newest ≤ places_width None rows newest
  places_less =
      each_below (λ (copy : PlacedCopy). width (newest_place (Some most) copy)) (λ (copy : PlacedCopy). width (newest_place None copy))
      (widest 4 (copy_place (Some most)) rows) (widest 4 (copy_place None) rows) newest
      (each_below (λ (row : StatusRow). width (copy_place (Some most) row)) (λ (row : StatusRow). width (copy_place None row)) 4 4 rows (omega arith) (λ row. less (place_text row.place)))
      (λ copy. less (place_text copy.place))

-- two columns that each have their share
shared : (terminal words word places other widest_copy widest_other : ℕ) → 24 ≤ terminal - 12 - words → word ≤ words
    → places ≤ share (terminal - 12 - words) widest_other → places ≤ widest_copy
    → other ≤ share (terminal - 12 - words) widest_copy → other ≤ widest_other
    → 12 + places + word + other ≤ terminal
shared terminal words word places other widest_copy widest_other room within copy_share copy_whole other_share other_whole = omega arith

at_least : (left other : ℕ) → 12 ≤ share left other
at_least left other = omega arith

pub lines_fit : LinesFit
lines_fit terminal rows newest room k d within =
    let left = left_for terminal rows in
    let copy = share left (others_width rows) in
    let other = share left (places_width None rows newest) in
    let row = get_or rows k d in
    let fit = fits other (place_text row.with.place) (omega (arith, at_least left (places_width None rows newest))) in
    let one = one_of (λ (row : StatusRow). width (place_text row.with.place)) (10 - words_of rows) rows k d within in
    shared terminal (words_of rows) (words_width row.state) (places_width (Some copy) rows newest) (width (fitted (Some other) (place_text row.with.place)))
    (places_width None rows newest) (others_width rows) room (one_of (λ (row : StatusRow). words_width row.state) 0 rows k d within)
    (places_below rows newest copy (at_least left (others_width rows))) (places_less rows newest copy (at_least left (others_width rows)))
    fit.0 (omega (arith, fit.1, one))
