-- Rows in byte order of their paths, when one is put in, changed or taken out.
use Rattle.std.specs.Prelude.{◌≡◌, ℕ, zero, suc, ◌<◌, ◌≤◌, Bool, true, false, cond, not, List, [], ◌∷◌, ◌++◌, length, map, filter, slice_index_or, slice_set, insert, remove, Result, Ok, Err, MatchResult}
use Rattle.std.specs.List.{AllByRecursion}
use Rattle.std.specs.List.Sorted.{IsStrictlySortedBy, IsSortedBy, IsSearchInRange, IsBinarySearchResult}
use Rattle.std.specs.declared.cmp.Ordering.{Ordering}
use Rattle.std.specs.declared.cmp.Ordering.TheVariants.{Less, Equal, Greater}
use Rattle.std.specs.Ordering.{is_lt, is_gt, is_eq}
use Rattle.std.specs.Cmp.Lexicographic.{texts_ties, nat_list_cmp_total}
use Rattle.std.specs.Str.{bytes_eq}
use Rattle.std.proofs.Common.{refl, sym, ap, ◌∙◌, subst, arith}
use Rattle.std.proofs.lemmas.Bool.{true≢false}
use Rattle.std.proofs.lemmas.List.Sorted.{searchable_from_sorted}
use native.Mathlib.Numerals.{unary_clauses}
use Rattle.pana_scan.specs.declared.baseline.BaselineRow.{BaselineRow}
use Rattle.pana_scan.specs.declared.baseline.Mark.{Mark}
use Rattle.pana_scan.specs.Order.{Path, path_cmp}
use Rattle.pana_scan.specs.Baseline.{MarksRise, with_row, without}
use Rattle.pana_scan.specs.inner.Position.{IsAt, IsGap}
use Rattle.pana_scan.proofs.Order.{IsBelow, Rise, same_path, turned, below_chain, less_from}

abbrev key : BaselineRow → Path
key row = row.path

abbrev is_below : Path → BaselineRow → Bool
is_below p row = is_lt (path_cmp row.path p)

abbrev is_above : Path → BaselineRow → Bool
is_above p row = is_gt (path_cmp row.path p)

abbrev is_other : Path → BaselineRow → Bool
is_other p row = not (bytes_eq row.path p)

-- ---- which rows a test keeps, by how each compares

keep_by : (test : BaselineRow → Bool) (row : BaselineRow) (rows : List BaselineRow) (b : Bool) → test row ≡ b → filter test (row ∷ rows) ≡ cond b (row ∷ filter test rows) (filter test rows)
keep_by test row rows b is = ap (λ v. cond v (row ∷ filter test rows) (filter test rows)) is

none_below : (p : Path) (rows : List BaselineRow) → IsBelow p (map key rows) → filter (is_below p) rows ≡ []
none_below p [] below = refl
none_below p (row ∷ rows) below =
    keep_by (is_below p) row rows false (ap is_lt (turned p row.path Less below.0)) ∙ none_below p rows below.1

all_above : (p : Path) (rows : List BaselineRow) → IsBelow p (map key rows) → filter (is_above p) rows ≡ rows
all_above p [] below = refl
all_above p (row ∷ rows) below =
    keep_by (is_above p) row rows true (ap is_gt (turned p row.path Less below.0)) ∙ ap (λ more. row ∷ more) (all_above p rows below.1)

all_other : (p : Path) (rows : List BaselineRow) → IsBelow p (map key rows) → filter (is_other p) rows ≡ rows
all_other p [] below = refl
all_other p (row ∷ rows) below =
    keep_by (is_other p) row rows true (ap not (texts_ties row.path p ∙ ap is_eq (turned p row.path Less below.0)))
    ∙ ap (λ more. row ∷ more) (all_other p rows below.1)

-- the row with the path is above those before it
below_at : (q : Path) (rows : List BaselineRow) (i : ℕ) (d : BaselineRow) → IsBelow q (map key rows) → i < length rows → path_cmp q (slice_index_or rows i d).path ≡ Less
below_at q [] i d below within = absurd (omega (arith, within))
below_at q (row ∷ rows) zero d below within = below.0
below_at q (row ∷ rows) (suc i) d below within = below_at q rows i d below.1 (omega (arith, within))

head_below : (p : Path) (row : BaselineRow) (rows : List BaselineRow) (i : ℕ) → MarksRise (row ∷ rows) → IsAt p (row ∷ rows) (suc i) → path_cmp row.path p ≡ Less
unfolding IsStrictlySortedBy
head_below p row rows i rise at =
    subst (λ z. path_cmp row.path z ≡ Less) (same_path (slice_index_or rows i row).path p (at.1 row)) (below_at row.path rows i row rise.0 (omega (arith, at.0)))

tail_at : (p : Path) (row : BaselineRow) (rows : List BaselineRow) (i : ℕ) → IsAt p (row ∷ rows) (suc i) → IsAt p rows i
tail_at p row rows i at = (omega (arith, at.0), λ d. at.1 d)

-- ---- at a row that has the path

pub removed_at : (p : Path) (rows : List BaselineRow) (i : ℕ) → MarksRise rows → IsAt p rows i → remove rows i ≡ without p rows
unfolding IsStrictlySortedBy
removed_at p [] i rise at = absurd (omega (arith, at.0))
removed_at p (row ∷ rows) zero rise at =
    let same = at.1 row in
    sym (all_other p rows (subst (λ z. IsBelow z (map key rows)) (same_path row.path p same) rise.0))
    ∙ sym (keep_by (is_other p) row rows false (ap not (texts_ties row.path p ∙ ap is_eq same)))
removed_at p (row ∷ rows) (suc i) rise at =
    let less = head_below p row rows i rise at in
    ap (λ more. row ∷ more) (removed_at p rows i rise.1 (tail_at p row rows i at))
    ∙ sym (keep_by (is_other p) row rows true (ap not (texts_ties row.path p ∙ ap is_eq less)))

pub changed_at : (new : BaselineRow) (rows : List BaselineRow) (i : ℕ) → MarksRise rows → IsAt new.path rows i → slice_set rows i new ≡ with_row new rows
unfolding IsStrictlySortedBy
changed_at new [] i rise at = absurd (omega (arith, at.0))
changed_at new (row ∷ rows) zero rise at =
    let same = at.1 row in
    let below = subst (λ z. IsBelow z (map key rows)) (same_path row.path new.path same) rise.0 in
    sym (λ i. (keep_by (is_below new.path) row rows false (ap is_lt same) ∙ none_below new.path rows below) i
    ++ new ∷ (keep_by (is_above new.path) row rows false (ap is_gt same) ∙ all_above new.path rows below) i)
changed_at new (row ∷ rows) (suc i) rise at =
    let less = head_below new.path row rows i rise at in
    ap (λ more. row ∷ more) (changed_at new rows i rise.1 (tail_at new.path row rows i at))
    ∙ sym (λ i. keep_by (is_below new.path) row rows true (ap is_lt less) i ++ new ∷ keep_by (is_above new.path) row rows false (ap is_gt less) i)

-- ---- where no row has the path

-- every row from an index on is above
greater_from : (p : Path) (rows : List BaselineRow) → ((k : ℕ) (d : BaselineRow) → 0 ≤ k → k < length rows → path_cmp (slice_index_or rows k d).path p ≡ Greater) → IsBelow p (map key rows)
greater_from p [] all = tt
greater_from p (row ∷ rows) all =
    (turned row.path p Greater (all 0 row (omega arith) (omega arith)), greater_from p rows (λ k d low high. all (suc k) d (omega arith) (omega (arith, high))))

tail_gap : (p : Path) (row : BaselineRow) (rows : List BaselineRow) (i : ℕ) → IsGap p (row ∷ rows) (suc i) → IsGap p rows i
tail_gap p row rows i gap = (
  omega (arith, gap.0),
  (λ k d low high. gap.1.0 (suc k) d (omega arith) (omega (arith, high)), λ k d low high. gap.1.1 (suc k) d (omega (arith, low)) (omega (arith, high))),
)

pub inserted_at : (new : BaselineRow) (rows : List BaselineRow) (i : ℕ) → IsGap new.path rows i → insert rows i new ≡ with_row new rows
inserted_at new [] zero gap = refl
inserted_at new [] (suc i) gap = absurd (omega (arith, gap.0))
inserted_at new (row ∷ rows) zero gap =
    let below = greater_from new.path (row ∷ rows) gap.1.1 in
    sym (λ i. none_below new.path (row ∷ rows) below i ++ new ∷ all_above new.path (row ∷ rows) below i)
inserted_at new (row ∷ rows) (suc i) gap =
    let less : path_cmp row.path new.path ≡ Less = gap.1.0 0 row (omega arith) (omega arith) in
    ap (λ more. row ∷ more) (inserted_at new rows i (tail_gap new.path row rows i gap))
    ∙ sym (λ i. keep_by (is_below new.path) row rows true (ap is_lt less) i ++ new ∷ keep_by (is_above new.path) row rows false (ap is_gt less) i)

pub kept_at : (p : Path) (rows : List BaselineRow) (i : ℕ) → IsGap p rows i → rows ≡ without p rows
kept_at p [] i gap = refl
kept_at p (row ∷ rows) zero gap = sym (all_other p (row ∷ rows) (greater_from p (row ∷ rows) gap.1.1))
kept_at p (row ∷ rows) (suc i) gap =
    let less : path_cmp row.path p ≡ Less = gap.1.0 0 row (omega arith) (omega arith) in
    ap (λ more. row ∷ more) (kept_at p rows i (tail_gap p row rows i gap))
    ∙ sym (keep_by (is_other p) row rows true (ap not (texts_ties row.path p ∙ ap is_eq less)))

-- ---- what is left rises

module _ {T : Type 0} (path_of : T → Path) (test : T → Bool) where
  below_filter : (q : Path) (rows : List T) → IsBelow q (map path_of rows) → IsBelow q (map path_of (filter test rows))
  below_filter q [] below = below
  below_filter q (row ∷ rows) below =
      elim (test row) as (λ b. IsBelow q (map path_of (cond b (row ∷ filter test rows) (filter test rows)))) [
        | true ↦ (below.0, below_filter q rows below.1)
        | false ↦ below_filter q rows below.1
      ]

  rise_filter : (rows : List T) → Rise (map path_of rows) → Rise (map path_of (filter test rows))
  unfolding IsStrictlySortedBy
  rise_filter [] rise = rise
  rise_filter (row ∷ rows) rise =
      elim (test row) as (λ b. Rise (map path_of (cond b (row ∷ filter test rows) (filter test rows)))) [
        | true ↦ (below_filter (path_of row) rows rise.0, rise_filter rows rise.1)
        | false ↦ rise_filter rows rise.1
      ]

pub without_rise : (p : Path) (rows : List BaselineRow) → MarksRise rows → MarksRise (without p rows)
without_rise p rows rise = rise_filter key (is_other p) rows rise

-- each path is below this one
abbrev AreBelow : List Path → Path → Type 0
AreBelow paths p = AllByRecursion (λ q. path_cmp q p ≡ Less) paths

greater_from_test : (o : Ordering) → is_gt o ≡ true → o ≡ Greater
greater_from_test Less is = absurd (true≢false (sym is))
greater_from_test Equal is = absurd (true≢false (sym is))
greater_from_test Greater is = refl

lower_are_below : (p : Path) (rows : List BaselineRow) → AreBelow (map key (filter (is_below p) rows)) p
lower_are_below p [] = tt
lower_are_below p (row ∷ rows) =
    elim (is_below p row) as (λ b. is_below p row ≡ b → AreBelow (map key (cond b (row ∷ filter (is_below p) rows) (filter (is_below p) rows))) p) [
      | true ↦ λ e. (less_from (path_cmp row.path p) e, lower_are_below p rows)
      | false ↦ λ e. lower_are_below p rows
    ] refl

higher_are_above : (p : Path) (rows : List BaselineRow) → IsBelow p (map key (filter (is_above p) rows))
higher_are_above p [] = tt
higher_are_above p (row ∷ rows) =
    elim (is_above p row) as (λ b. is_above p row ≡ b → IsBelow p (map key (cond b (row ∷ filter (is_above p) rows) (filter (is_above p) rows)))) [
      | true ↦ λ e. (turned row.path p Greater (greater_from_test (path_cmp row.path p) e), higher_are_above p rows)
      | false ↦ λ e. higher_are_above p rows
    ] refl

rise_around : (lower : List BaselineRow) (new : BaselineRow) (higher : List BaselineRow) → Rise (map key lower) → AreBelow (map key lower) new.path
    → Rise (map key higher) → IsBelow new.path (map key higher) → Rise (map key (lower ++ new ∷ higher))
unfolding IsStrictlySortedBy
rise_around [] new higher rl below rh above = (above, rh)
rise_around (row ∷ lower) new higher rl below rh above =
    (through lower rl.0 below.1, rise_around lower new higher rl.1 below.1 rh above)
  where
    through : (more : List BaselineRow) → IsBelow row.path (map key more) → AreBelow (map key more) new.path → IsBelow row.path (map key (more ++ new ∷ higher))
    through [] at after = (below.0, below_chain row.path new.path (map key higher) below.0 above)
    through (next ∷ more) at after = (at.0, through more at.1 after.1)

pub with_row_rise : (new : BaselineRow) (rows : List BaselineRow) → MarksRise rows → MarksRise (with_row new rows)
with_row_rise new rows rise =
    rise_around (filter (is_below new.path) rows) new (filter (is_above new.path) rows)
    (rise_filter key (is_below new.path) rows rise) (lower_are_below new.path rows)
    (rise_filter key (is_above new.path) rows rise) (higher_are_above new.path rows)

-- ---- where a search ends

sorted_by : (rows : List BaselineRow) → MarksRise rows → IsSortedBy (λ a b. is_lt (path_cmp a.path b.path)) rows
unfolding IsStrictlySortedBy
sorted_by [] rise k d low high = absurd (omega (arith, high))
sorted_by (row ∷ []) rise k d low high = absurd (omega (arith, high))
sorted_by (row ∷ next ∷ rows) rise zero d low high = ap is_lt (turned row.path next.path Less rise.0.0)
sorted_by (row ∷ next ∷ rows) rise (suc k) d low high =
    simp unary_clauses (simp unary_clauses at (sorted_by (next ∷ rows) rise.1 k d (omega arith) (omega (arith, high))))

pub placed : (p : Path) (rows : List BaselineRow) (r : Result ℕ ℕ) → MarksRise rows → IsSearchInRange r (length rows)
    → IsBinarySearchResult (λ row. path_cmp row.path p) rows r → MatchResult r (IsAt p rows) (IsGap p rows)
placed p rows (Ok i) rise bound at = (bound, at)
placed p rows (Err i) rise bound gap = (bound, gap (searchable_from_sorted nat_list_cmp_total key rows p (sorted_by rows rise)))

-- ---- for the calls

pub put_changed : (items rows : List BaselineRow) (p : Path) (mark : Mark) (i : ℕ) (old : BaselineRow) → items ≡ rows → MarksRise rows → IsAt p rows i → old ≡ slice_index_or items i old
    → slice_set items i (record { path = old.path; mark = mark }) ≡ with_row (record { path = p; mark = mark }) rows
put_changed items rows p mark i old same rise at is =
    let here : old.path ≡ p = ap (λ row. row.path) (is ∙ ap (λ more. slice_index_or more i old) same) ∙ same_path (slice_index_or rows i old).path p (at.1 old) in
    (λ t. slice_set (same t) i (record { path = here t; mark = mark })) ∙ changed_at (record { path = p; mark = mark }) rows i rise at
