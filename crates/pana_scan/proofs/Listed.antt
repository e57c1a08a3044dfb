-- The rows of a listing: a path goes in at the end, above the last.
use Rattle.std.specs.Prelude.{◌≡◌, ◌↔◌, ℕ, zero, suc, ◌+◌, ◌-◌, ◌<◌, Bool, IsTrue, List, [], ◌∷◌, ◌++◌, map, length, slice_index_or}
use Rattle.std.specs.Ordering.{is_lt}
use Rattle.std.specs.List.Sorted.{IsStrictlySortedBy}
use Rattle.std.specs.declared.cmp.Ordering.TheVariants.{Less}
use Rattle.std.proofs.Common.{refl, sym, ap, ◌∙◌, subst, arith}
use Rattle.pana_scan.specs.declared.listing.FoundRow.{FoundRow}
use Rattle.pana_scan.specs.Order.{Path, path_cmp}
use Rattle.pana_scan.specs.Listing.{IsAbove, RowsRise}
use Rattle.pana_scan.proofs.Order.{IsBelow, less_then, less_from}

abbrev key : FoundRow → Path
key row = row.path

below_push : (q : Path) (rows : List FoundRow) (new : FoundRow) → IsBelow q (map key rows) → path_cmp q new.path ≡ Less → IsBelow q (map key (rows ++ new ∷ []))
below_push q [] new below less = (less, tt)
below_push q (row ∷ rows) new below less = (below.0, below_push q rows new below.1 less)

-- above the last is above all
first_below : (row : FoundRow) (rows : List FoundRow) (p : Path) → RowsRise (row ∷ rows) → IsAbove (row ∷ rows) p → path_cmp row.path p ≡ Less
unfolding IsStrictlySortedBy
first_below row [] p rise above = above [] row refl
first_below row (next ∷ rows) p rise above =
    less_then row.path next.path p rise.0.0 (first_below next rows p rise.1 (λ before last e. above (row ∷ before) last (ap (λ more. row ∷ more) e)))

pub pushed_rise : (rows : List FoundRow) (new : FoundRow) → RowsRise rows → IsAbove rows new.path → RowsRise (rows ++ new ∷ [])
unfolding IsStrictlySortedBy
pushed_rise [] new rise above = (tt, tt)
pushed_rise (row ∷ rows) new rise above = (
  below_push row.path rows new rise.0 (first_below row rows new.path rise above),
  pushed_rise rows new rise.1 (λ before last e. above (row ∷ before) last (ap (λ more. row ∷ more) e)),
)

abbrev last_or : FoundRow → List FoundRow → FoundRow
last_or d [] = d
last_or d (row ∷ rows) = last_or row rows

last_pushed : (d : FoundRow) (rows : List FoundRow) (last : FoundRow) → last_or d (rows ++ last ∷ []) ≡ last
last_pushed d [] last = refl
last_pushed d (row ∷ rows) last = last_pushed row rows last

-- the last row alone decides whether a path is above
pub above_last : (rows before : List FoundRow) (last : FoundRow) (p : Path) → rows ≡ before ++ last ∷ [] → path_cmp last.path p ≡ Less → IsAbove rows p
above_last rows before last p is less others other is' =
    let same : last ≡ other = sym (last_pushed last before last) ∙ ap (last_or last) (sym is ∙ is') ∙ last_pushed last others other in
    subst (λ row. path_cmp row.path p ≡ Less) same less

last_at : (rows : List FoundRow) (last : FoundRow) (i : ℕ) → i + 1 ≡ length rows → last ≡ slice_index_or rows i last → (before : List FoundRow) × (rows ≡ before ++ last ∷ [])
last_at [] last i long is = absurd (omega (arith, long))
last_at (row ∷ []) last zero long is = ([], ap (λ it. it ∷ []) (sym is))
last_at (row ∷ []) last (suc i) long is = absurd (omega (arith, long))
last_at (row ∷ next ∷ rows) last zero long is = absurd (omega (arith, long))
last_at (row ∷ next ∷ rows) last (suc i) long is =
    let rest = last_at (next ∷ rows) last i (omega (arith, long)) is in
    (row ∷ rest.0, ap (λ more. row ∷ more) rest.1)

-- what the comparison with the last row decides
above_decides : (rows : List FoundRow) (last : FoundRow) (p : Path) → 0 < length rows → last ≡ slice_index_or rows (length rows - 1) last
    → IsTrue (is_lt (path_cmp last.path p)) ↔ IsAbove rows p
above_decides rows last p some is =
    let split = last_at rows last (length rows - 1) (omega (arith, some)) is in (
      (λ less. above_last rows split.0 last p split.1 (less_from (path_cmp last.path p) less)),
      (λ above. ap is_lt (above split.0 last split.1)),
    )

pub above_answers : (seen rows : List FoundRow) (last : FoundRow) (p a b : Path) (r : Bool) → seen ≡ rows → 0 < length seen
    → last ≡ slice_index_or seen (length seen - 1) last → a ≡ last.path → b ≡ p → r ≡ is_lt (path_cmp a b) → IsTrue r ↔ IsAbove rows p
above_answers seen rows last p a b r same some is first second answer =
    let said : r ≡ is_lt (path_cmp last.path p) = answer ∙ (λ t. is_lt (path_cmp (first t) (second t))) in
    subst (λ x. IsTrue x ↔ IsAbove rows p) (sym said) (subst (λ more. IsTrue (is_lt (path_cmp last.path p)) ↔ IsAbove more p) same (above_decides seen last p some is))
