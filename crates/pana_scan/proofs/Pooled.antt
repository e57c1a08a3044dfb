-- A pool: which row stands at the point that a search finds, and what waits when that row is taken.
use Rattle.std.specs.Prelude.{◌≡◌, ◌≢◌, ℕ, zero, suc, ◌+◌, ◌<◌, ◌≤◌, Bool, true, false, cond, not, List, [], ◌∷◌, length, map, filter, find, slice_index_or, slice_set, Option, Some, None}
use Rattle.std.specs.List.{All, AllWithin}
use Rattle.std.specs.List.Sorted.{IsPartitionedBy, IsPartitionPoint, IsPermutation, IsSortedBy, IsStableBy, ties}
use Rattle.std.specs.declared.cmp.Ordering.{Ordering}
use Rattle.std.specs.declared.cmp.Ordering.TheVariants.{Less, Equal, Greater}
use Rattle.std.specs.Ordering.{is_lt}
use Rattle.std.specs.Cmp.Lexicographic.{nat_list_cmp_total, nat_list_eq_equiv}
use Rattle.std.specs.Str.{bytes_eq}
use Rattle.std.proofs.Common.{refl, sym, ap, ◌∙◌, subst, arith, inl, inr, length-set}
use Rattle.std.proofs.lemmas.Bool.{cases_eq, true≢false}
use Rattle.std.proofs.lemmas.List.{get_or_default, get_or-set_same, get_or-set_other}
use Rattle.std.proofs.lemmas.List.Sorted.{All-permutation, list_any-IsPermutation, ranks_by, sorted_far}
use Rattle.pana_scan.specs.declared.pool.Waiting.{Waiting}
use Rattle.pana_scan.specs.Order.{by_order, path_cmp}
use Rattle.pana_scan.specs.inner.Pool.{AreInOrder, first, is_before, is_lower, rest, waiting}
use Rattle.pana_scan.proofs.Order.{eq_is_same, eq_itself, equal_itself, less_differs, less_from, less_then, same_path, turned}
use Rattle.pana_scan.proofs.Sorted.{alike_filter, find_any, found_passes, none_of, there, ties_same}

lower_itself : (sum : List ℕ) → is_lt (path_cmp sum sum) ≡ false
lower_itself sum = ap is_lt (equal_itself sum)

lower_then : (a b t : List ℕ) → is_lt (path_cmp b a) ≡ false → is_lt (path_cmp b t) ≡ true → is_lt (path_cmp a t) ≡ true
lower_then a b t off less = elim (path_cmp a t) as (λ o. path_cmp a t ≡ o → is_lt o ≡ true) [
  | Less ↦ λ e. refl
  | Equal ↦ λ e. absurd (true≢false (sym less ∙ subst (λ z. is_lt (path_cmp b z) ≡ false) (same_path a t e) off))
  | Greater ↦ λ e. absurd (true≢false (sym (ap is_lt (less_then b t a (less_from (path_cmp b t) less) (turned a t Greater e))) ∙ off))
] refl

pub turned_true : (b : Bool) → not b ≡ true → b ≡ false
turned_true true is = absurd (true≢false (sym is))
turned_true false is = refl

pub turned_false : (b : Bool) → not b ≡ false → b ≡ true
turned_false true is = refl
turned_false false is = absurd (true≢false is)

module _ {T : Type 0} where
  abbrev is_of : List ℕ → Waiting T → Bool
  is_of sum row = bytes_eq row.sum.now sum

  -- what one row more makes of what waits
  pub one_more : (sum : List ℕ) (row : Waiting T) (rows : List (Waiting T))
      → waiting sum (row ∷ rows) ≡ cond (is_of sum row) (cond (not row.is_taken) (row.item ∷ waiting sum rows) (waiting sum rows)) (waiting sum rows)
  one_more sum row rows =
      elim (is_of sum row) as (λ b. map (λ it. it.item) (filter (λ it. not it.is_taken) (cond b (row ∷ filter (is_of sum) rows) (filter (is_of sum) rows)))
      ≡ cond b (cond (not row.is_taken) (row.item ∷ waiting sum rows) (waiting sum rows)) (waiting sum rows)) [
        | true ↦ elim (not row.is_taken) as (λ b. map (λ it. it.item) (cond b (row ∷ filter (λ it. not it.is_taken) (filter (is_of sum) rows)) (filter (λ it. not it.is_taken) (filter (is_of sum) rows)))
            ≡ cond b (row.item ∷ waiting sum rows) (waiting sum rows)) [ true ↦ refl | false ↦ refl ]
        | false ↦ refl
      ]

  other_sum : (sum : List ℕ) (row : Waiting T) (rows : List (Waiting T)) → is_of sum row ≡ false → waiting sum (row ∷ rows) ≡ waiting sum rows
  other_sum sum row rows other =
      one_more sum row rows ∙ ap (λ b. cond b (cond (not row.is_taken) (row.item ∷ waiting sum rows) (waiting sum rows)) (waiting sum rows)) other

  was_taken : (sum : List ℕ) (row : Waiting T) (rows : List (Waiting T)) → row.is_taken ≡ true → waiting sum (row ∷ rows) ≡ waiting sum rows
  was_taken sum row rows taken =
      one_more sum row rows
      ∙ ap (λ b. cond (is_of sum row) (cond (not b) (row.item ∷ waiting sum rows) (waiting sum rows)) (waiting sum rows)) taken
      ∙ elim (is_of sum row) as (λ b. cond b (waiting sum rows) (waiting sum rows) ≡ waiting sum rows) [ true ↦ refl | false ↦ refl ]

  waits : (sum : List ℕ) (row : Waiting T) (rows : List (Waiting T)) → is_of sum row ≡ true → row.is_taken ≡ false → waiting sum (row ∷ rows) ≡ row.item ∷ waiting sum rows
  waits sum row rows same untaken =
      one_more sum row rows
      ∙ ap (λ b. cond b (cond (not row.is_taken) (row.item ∷ waiting sum rows) (waiting sum rows)) (waiting sum rows)) same
      ∙ ap (λ b. cond (not b) (row.item ∷ waiting sum rows) (waiting sum rows)) untaken

  same_behind : (sum : List ℕ) (row : Waiting T) (xs ys : List (Waiting T)) → waiting sum xs ≡ waiting sum ys → waiting sum (row ∷ xs) ≡ waiting sum (row ∷ ys)
  same_behind sum row xs ys same =
      one_more sum row xs ∙ ap (λ more. cond (is_of sum row) (cond (not row.is_taken) (row.item ∷ more) more) more) same ∙ sym (one_more sum row ys)

  -- ---- what a test says of a row

  before_skips : (sum : List ℕ) (row : Waiting T) (rows : List (Waiting T)) → is_before sum row ≡ true → waiting sum (row ∷ rows) ≡ waiting sum rows
  before_skips sum row rows before =
      elim (path_cmp row.sum.now sum) as (λ o. path_cmp row.sum.now sum ≡ o → by_order o true row.is_taken false ≡ true → waiting sum (row ∷ rows) ≡ waiting sum rows) [
        | Less ↦ λ e is. other_sum sum row rows (less_differs row.sum.now sum e)
        | Equal ↦ λ e is. was_taken sum row rows is
        | Greater ↦ λ e is. absurd (true≢false (sym is))
      ] refl before

  untaken_at : (sum : List ℕ) (row : Waiting T) → is_of sum row ≡ true → is_before sum row ≡ false → row.is_taken ≡ false
  untaken_at sum row same off =
      sym (ap (λ o. by_order o true row.is_taken false) (subst (λ z. path_cmp row.sum.now z ≡ Equal) (eq_is_same row.sum.now sum same) (equal_itself row.sum.now))) ∙ off

  above_at : (sum : List ℕ) (row : Waiting T) → is_of sum row ≡ false → is_before sum row ≡ false → path_cmp sum row.sum.now ≡ Less
  above_at sum row other off =
      elim (path_cmp row.sum.now sum) as (λ o. path_cmp row.sum.now sum ≡ o → by_order o true row.is_taken false ≡ false → path_cmp sum row.sum.now ≡ Less) [
        | Less ↦ λ e is. absurd (true≢false is)
        | Equal ↦ λ e is. absurd (true≢false (sym (subst (λ z. bytes_eq row.sum.now z ≡ true) (same_path row.sum.now sum e) (eq_itself row.sum.now)) ∙ other))
        | Greater ↦ λ e is. turned row.sum.now sum Greater e
      ] refl off

  -- ---- the row that is found is taken

  pub taken_first : (sum : List ℕ) (rows : List (Waiting T)) (i : ℕ) (new d : Waiting T) → i < length rows
      → AllWithin (λ row. is_before sum row ≡ true) rows zero i → is_before sum (slice_index_or rows i d) ≡ false → is_of sum (slice_index_or rows i d) ≡ true
      → new.is_taken ≡ true → waiting sum rows ≡ (slice_index_or rows i d).item ∷ waiting sum (slice_set rows i new)
  taken_first sum [] i new d within before off same taken = absurd (omega (arith, within))
  taken_first sum (row ∷ rows) zero new d within before off same taken =
      waits sum row rows same (untaken_at sum row same off) ∙ ap (λ more. row.item ∷ more) (sym (was_taken sum new rows taken))
  taken_first sum (row ∷ rows) (suc i) new d within before off same taken =
      let skips = before 0 row (omega arith) (omega arith) in
      before_skips sum row rows skips
      ∙ taken_first sum rows i new d (omega (arith, within)) (λ k e low high. before (suc k) e (omega arith) (omega (arith, high))) off same taken
      ∙ ap (λ more. (slice_index_or rows i d).item ∷ more) (sym (before_skips sum row (slice_set rows i new) skips))

  pub taken_other : (sum : List ℕ) (rows : List (Waiting T)) (i : ℕ) (new d : Waiting T) → i < length rows
      → is_of sum (slice_index_or rows i d) ≡ false → is_of sum new ≡ false → waiting sum (slice_set rows i new) ≡ waiting sum rows
  taken_other sum [] i new d within old_other new_other = absurd (omega (arith, within))
  taken_other sum (row ∷ rows) zero new d within old_other new_other = other_sum sum new rows new_other ∙ sym (other_sum sum row rows old_other)
  taken_other sum (row ∷ rows) (suc i) new d within old_other new_other =
      same_behind sum row (slice_set rows i new) rows (taken_other sum rows i new d (omega (arith, within)) old_other new_other)

  -- ---- no row is found

  none_waits : (sum : List ℕ) (rows : List (Waiting T)) (i : ℕ) → AllWithin (λ row. is_before sum row ≡ true) rows zero i
      → AllWithin (λ row. is_of sum row ≡ false) rows i (length rows) → waiting sum rows ≡ []
  none_waits sum [] i before other = refl
  none_waits sum (row ∷ rows) zero before other =
      other_sum sum row rows (other 0 row (omega arith) (omega arith))
      ∙ none_waits sum rows zero (λ k e low high. absurd (omega (arith, high))) (λ k e low high. other (suc k) e (omega arith) (omega (arith, high)))
  none_waits sum (row ∷ rows) (suc i) before other =
      before_skips sum row rows (before 0 row (omega arith) (omega arith))
      ∙ none_waits sum rows i (λ k e low high. before (suc k) e (omega arith) (omega (arith, high))) (λ k e low high. other (suc k) e (omega (arith, low)) (omega (arith, high)))

  -- where the point is the end
  pub none_at_end : (sum : List ℕ) (rows : List (Waiting T)) (i : ℕ) → i ≡ length rows
      → IsPartitionPoint (λ row. is_before sum row ≡ true) (λ row. is_before sum row ≡ false) rows i → waiting sum rows ≡ []
  none_at_end sum rows i end point = none_waits sum rows i point.0 (λ k e low high. absurd (omega (arith, low, high, end)))

  -- a row behind one with a greater sum hasn't this sum
  later_other : (sum : List ℕ) (rows : List (Waiting T)) (i k : ℕ) (d : Waiting T) → AreInOrder rows → i ≤ k → k < length rows
      → path_cmp sum (slice_index_or rows i d).sum.now ≡ Less → is_of sum (slice_index_or rows k d) ≡ false
  later_other sum rows i k d order low high above =
      let here = (slice_index_or rows i d).sum.now in
      elim (is_of sum (slice_index_or rows k d)) as (λ b. is_of sum (slice_index_or rows k d) ≡ b → b ≡ false) [
        | true ↦ λ same.
            let lower : is_lower here (slice_index_or rows k d) ≡ true =
            ap is_lt (subst (λ z. path_cmp z here ≡ Less) (sym (eq_is_same (slice_index_or rows k d).sum.now sum same)) above) in
            absurd (true≢false (sym (order.lower here i k d low high lower) ∙ lower_itself here))
        | false ↦ λ same. refl
      ] refl

  -- where the row there has another sum
  pub none_there : (sum : List ℕ) (rows : List (Waiting T)) (i : ℕ) (row : Waiting T) → AreInOrder rows → i < length rows
      → row ≡ slice_index_or rows i row → is_of sum row ≡ false
      → IsPartitionPoint (λ it. is_before sum it ≡ true) (λ it. is_before sum it ≡ false) rows i → waiting sum rows ≡ []
  none_there sum rows i row order within is other point =
      none_waits sum rows i point.0
      (λ k d low high.
      let same : slice_index_or rows i d ≡ row = get_or_default rows i d row within ∙ sym is in
      later_other sum rows i k d order low high
      (above_at sum (slice_index_or rows i d) (subst (λ it. is_of sum it ≡ false) (sym same) other) (point.1 i d (omega arith) within)))

  -- ---- the order stays

  still_before : (sum : List ℕ) (old new : Waiting T) → new.sum.now ≡ old.sum.now → new.is_taken ≡ true → is_before sum old ≡ true → is_before sum new ≡ true
  still_before sum old new same taken before =
      (λ i. by_order (path_cmp (same i) sum) true (taken i) false)
      ∙ elim (path_cmp old.sum.now sum) as (λ o. by_order o true old.is_taken false ≡ true → by_order o true true false ≡ true) [ Less ↦ λ is. refl | Equal ↦ λ is. refl | Greater ↦ λ is. is ] before

  module _ (rows : List (Waiting T)) (i : ℕ) (old new : Waiting T) (within : i < length rows) (is : old ≡ slice_index_or rows i old) where
    read_same : (k : ℕ) (d : Waiting T) → k ≡ i → slice_index_or (slice_set rows i new) k d ≡ new
    read_same k d e = ap (λ n. slice_index_or (slice_set rows i new) n d) e ∙ get_or-set_same rows i new d within

    was_old : (k : ℕ) (d : Waiting T) → k ≡ i → slice_index_or rows k d ≡ old
    was_old k d e = ap (λ n. slice_index_or rows n d) e ∙ get_or_default rows i d old within ∙ sym is

    stays : (p : Waiting T → Bool) → IsPartitionedBy p rows → ((k : ℕ) (d : Waiting T) → k < i → p new ≡ true → p (slice_index_or rows k d) ≡ true)
        → (p old ≡ true → p new ≡ true) → IsPartitionedBy p (slice_set rows i new)
    stays p parted front back a b d low high passes =
        let short : b < length rows = omega (arith, high, length-set rows i new) in
        elim (cases_eq b i) [
          | inl at_b ↦
              let here : p new ≡ true = subst (λ it. p it ≡ true) (read_same b d at_b) passes in
              elim (cases_eq a i) [
                | inl at_a ↦ subst (λ it. p it ≡ true) (sym (read_same a d at_a)) here
                | inr not_a ↦ subst (λ it. p it ≡ true) (sym (get_or-set_other rows i a new d not_a)) (front a d (omega (arith, low, at_b, not_a)) here)
              ]
          | inr not_b ↦
              let before : p (slice_index_or rows a d) ≡ true = parted a b d low short (subst (λ it. p it ≡ true) (get_or-set_other rows i b new d not_b) passes) in
              elim (cases_eq a i) [
                | inl at_a ↦ subst (λ it. p it ≡ true) (sym (read_same a d at_a)) (back (subst (λ it. p it ≡ true) (was_old a d at_a) before))
                | inr not_a ↦ subst (λ it. p it ≡ true) (sym (get_or-set_other rows i a new d not_a)) before
              ]
        ]

    pub taken_order : (sum : List ℕ) → AreInOrder rows → new.sum.now ≡ old.sum.now → new.is_taken ≡ true → is_of sum old ≡ true
        → AllWithin (λ it. is_before sum it ≡ true) rows zero i → AreInOrder (slice_set rows i new)
    taken_order sum order same taken of before = record {
      lower = λ t. stays (is_lower t) (order.lower t)
          (λ k d low passes. order.lower t k i d (omega arith) within
          (subst (λ it. is_lower t it ≡ true) (sym (was_old i d refl)) (subst (λ z. is_lt (path_cmp z t) ≡ true) same passes)))
          (λ passes. subst (λ z. is_lt (path_cmp z t) ≡ true) (sym same) passes);
      before = λ t. stays (is_before t) (order.before t) (front t) (still_before t old new same taken);
    }
      where
        front : (t : List ℕ) (k : ℕ) (d : Waiting T) → k < i → is_before t new ≡ true → is_before t (slice_index_or rows k d) ≡ true
        front t k d low passes =
            elim (path_cmp old.sum.now t) as (λ o. path_cmp old.sum.now t ≡ o → by_order o true new.is_taken false ≡ true → is_before t (slice_index_or rows k d) ≡ true) [
              | Less ↦ λ e is_less.
                  order.before t k i d (omega arith) within (subst (λ it. is_before t it ≡ true) (sym (was_old i d refl)) (ap (λ o. by_order o true old.is_taken false) e))
              | Equal ↦ λ e is_equal.
                  subst (λ z. is_before z (slice_index_or rows k d) ≡ true) (sym (eq_is_same old.sum.now sum of) ∙ same_path old.sum.now t e) (before k d (omega arith) low)
              | Greater ↦ λ e is_greater. absurd (true≢false (sym is_greater))
            ] refl (subst (λ z. by_order (path_cmp z t) true new.is_taken false ≡ true) same passes)

  -- ---- what a call returns and leaves

  pub nothing_first : (sum : List ℕ) (rows : List (Waiting T)) → waiting sum rows ≡ [] → None ≡ first (waiting sum rows)
  nothing_first sum rows none = sym (ap first none)

  pub nothing_else : (sum : List ℕ) (rows : List (Waiting T)) → waiting sum rows ≡ [] → (t : List ℕ)
      → waiting t rows ≡ cond (bytes_eq t sum) (rest (waiting t rows)) (waiting t rows)
  nothing_else sum rows none t = elim (bytes_eq t sum) as (λ b. bytes_eq t sum ≡ b → waiting t rows ≡ cond b (rest (waiting t rows)) (waiting t rows)) [
    | true ↦ λ e. let empty = subst (λ z. waiting z rows ≡ []) (sym (eq_is_same t sum e)) none in empty ∙ sym (ap rest empty)
    | false ↦ λ e. refl
  ] refl

  module _ (rows : List (Waiting T)) (i : ℕ) (old new : Waiting T) (within : i < length rows) (is : old ≡ slice_index_or rows i old)
      (sum : List ℕ) (of : is_of sum old ≡ true) (same : new.sum.now ≡ old.sum.now) (taken : new.is_taken ≡ true)
      (point : IsPartitionPoint (λ it. is_before sum it ≡ true) (λ it. is_before sum it ≡ false) rows i) where
    item_and_rest : waiting sum rows ≡ old.item ∷ waiting sum (slice_set rows i new)
    item_and_rest =
        taken_first sum rows i new old within point.0 (point.1 i old (omega arith) within) (subst (λ it. is_of sum it ≡ true) is of) taken
        ∙ ap (λ it. it.item ∷ waiting sum (slice_set rows i new)) (sym is)

    pub item_first : Some old.item ≡ first (waiting sum rows)
    item_first = sym (ap first item_and_rest)

    pub taken_rest : (t : List ℕ) → waiting t (slice_set rows i new) ≡ cond (bytes_eq t sum) (rest (waiting t rows)) (waiting t rows)
    taken_rest t = elim (bytes_eq t sum) as (λ b. bytes_eq t sum ≡ b → waiting t (slice_set rows i new) ≡ cond b (rest (waiting t rows)) (waiting t rows)) [
      | true ↦ λ e.
          let P : List ℕ → Type 0 = λ z. waiting z (slice_set rows i new) ≡ rest (waiting z rows) in
          subst P (sym (eq_is_same t sum e)) (sym (ap rest item_and_rest))
      | false ↦ λ e.
          let other : is_of t old ≡ false = ap (λ z. bytes_eq z t) (eq_is_same old.sum.now sum of) ∙ nat_list_eq_equiv.symm sum t ∙ e in
          taken_other t rows i new old within (subst (λ it. is_of t it ≡ false) is other) (ap (λ z. bytes_eq z t) same ∙ other)
    ] refl

  -- ---- rows that are sorted by their sums

  abbrev pub precedes : Waiting T → Waiting T → Bool
  precedes one other = is_lt (path_cmp one.sum.now other.sum.now)

  sorted_lower : (rows : List (Waiting T)) → IsSortedBy precedes rows → (t : List ℕ) → IsPartitionedBy (is_lower t) rows
  sorted_lower rows up t i j d low high passes =
      lower_then (slice_index_or rows i d).sum.now (slice_index_or rows j d).sum.now t
      (sorted_far precedes (ranks_by nat_list_cmp_total (λ row. row.sum.now)) rows up i j d low high) passes

  untaken_before : (t : List ℕ) (row : Waiting T) → row.is_taken ≡ false → is_before t row ≡ is_lower t row
  untaken_before t row untaken =
      ap (λ b. by_order (path_cmp row.sum.now t) true b false) untaken
      ∙ elim (path_cmp row.sum.now t) as (λ o. by_order o true false false ≡ is_lt o) [ Less ↦ refl | Equal ↦ refl | Greater ↦ refl ]

  pub sorted_order : (rows : List (Waiting T)) → IsSortedBy precedes rows → All (λ row. row.is_taken ≡ false) rows → AreInOrder rows
  sorted_order rows up untaken = record {
    lower = sorted_lower rows up;
    before = λ t i j d low high passes.
        untaken_before t (slice_index_or rows i d) (untaken i d (omega (arith, low, high)))
        ∙ sorted_lower rows up t i j d low high (sym (untaken_before t (slice_index_or rows j d) (untaken j d high)) ∙ passes);
  }

  empty_where_none : (test : Waiting T → Bool) (rows : List (Waiting T)) → find test rows ≡ None → filter test rows ≡ []
  empty_where_none test [] = λ none. refl
  empty_where_none test (row ∷ rows) = elim (test row) as (λ b. cond b (Some row) (find test rows) ≡ None → cond b (row ∷ filter test rows) (filter test rows) ≡ []) [
    | true ↦ λ none. absurd (true≢false (ap there none))
    | false ↦ λ none. empty_where_none test rows none
  ]

  same_group : (before after : List (Waiting T)) → IsPermutation before after → IsStableBy precedes before after → (sum : List ℕ)
      → filter (is_of sum) after ≡ filter (is_of sum) before
  same_group before after moved stable sum =
      elim (find (is_of sum) before) as (λ o. find (is_of sum) before ≡ o → filter (is_of sum) after ≡ filter (is_of sum) before) [
        | None ↦ λ e.
            empty_where_none (is_of sum) after (none_of (find (is_of sum) after)
            (find_any (is_of sum) after ∙ sym (list_any-IsPermutation (is_of sum) before after moved) ∙ sym (find_any (is_of sum) before) ∙ ap there e))
            ∙ sym (empty_where_none (is_of sum) before e)
        | Some x ↦ λ e.
            let here = eq_is_same x.sum.now sum (found_passes (is_of sum) before x e) in
            let alike : (y : Waiting T) → ties precedes x y ≡ is_of sum y = λ y. ties_same x.sum.now y.sum.now ∙ ap (λ z. bytes_eq y.sum.now z) here in
            sym (alike_filter (ties precedes x) (is_of sum) alike after) ∙ stable x ∙ alike_filter (ties precedes x) (is_of sum) alike before
      ] refl

  pub sorted_waiting : (before after : List (Waiting T)) → IsPermutation before after → IsStableBy precedes before after → (sum : List ℕ) → waiting sum after ≡ waiting sum before
  sorted_waiting before after moved stable sum = ap (λ rows. map (λ row. row.item) (filter (λ row. not row.is_taken) rows)) (same_group before after moved stable sum)
