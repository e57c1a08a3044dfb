-- Three lists in byte order of their paths, gone through once: the least first path is the first of all, and what the
-- lists have of it stands at their heads.
use Rattle.std.specs.Prelude.{◌≡◌, Bool, true, false, cond, ◌||◌, ◌⊎◌, List, [], ◌∷◌, ◌++◌, map, find, Option, Some, None, option_map, option_copied}
use Rattle.std.specs.List.Sorted.{IsStrictlySortedBy}
use Rattle.std.specs.declared.cmp.Ordering.TheVariants.{Less, Equal, Greater}
use Rattle.std.specs.Ordering.{is_lt}
use Rattle.std.specs.Str.{bytes_eq}
use Rattle.std.proofs.Common.{refl, sym, ap, ◌∙◌, subst, inl, inr, Bor}
use Rattle.std.proofs.lemmas.Bool.{true≢false}
use Rattle.pana_calls.specs.declared.holding.Holding.{Holding}
use Rattle.pana_scan.specs.declared.baseline.BaselineRow.{BaselineRow}
use Rattle.pana_scan.specs.declared.listing.FoundRow.{FoundRow}
use Rattle.pana_scan.specs.Order.{Path, path_cmp, in_order}
use Rattle.pana_scan.specs.Listing.{RowsRise}
use Rattle.pana_scan.specs.Baseline.{MarksRise}
use Rattle.pana_scan.specs.Plan.{at_path, at_paths, paths_of}
use Rattle.pana_scan.specs.inner.Heads.{head_at, rest_at, first_path, lesser}
use Rattle.pana_scan.specs.inner.Left.{HoldingsRise}
use Rattle.pana_scan.proofs.Order.{IsBelow, Rise, has, same_path, eq_itself, turned, less_then, less_differs, greater_differs, eq_is_same, below_chain, below_append, in_order_rise, in_order_has, in_order_below, same_paths}

-- ---- the lesser of two paths

-- the path is at most the other, where that is there
abbrev pub AtMost : Path → Option Path → Type 0
AtMost p None = Unit {0}
AtMost p (Some q) = (q ≡ p) ⊎ (path_cmp p q ≡ Less)

abbrev some_or : Path → Option Path → Path
some_or d None = d
some_or d (Some p) = p

abbrev there : {T : Type 0} → Option T → Bool
there None = false
there (Some p) = true

-- what holds of the lesser of two
abbrev pub IsLesser : Path → Option Path → Option Path → Type 0
IsLesser p a b = AtMost p a × AtMost p b × ((a ≡ Some p) ⊎ (b ≡ Some p))

lesser_of_two : (p a b : Path) → Some (cond (is_lt (path_cmp b a)) b a) ≡ Some p → IsLesser p (Some a) (Some b)
lesser_of_two p a b = elim (path_cmp b a) as (λ o. path_cmp b a ≡ o → Some (cond (is_lt o) b a) ≡ Some p → IsLesser p (Some a) (Some b)) [
  | Less ↦ λ e is. let same = ap (some_or b) is in (inr (subst (λ z. path_cmp z a ≡ Less) same e), inl same, inr is)
  | Equal ↦ λ e is. let same = ap (some_or a) is in (inl same, inl (same_path b a e ∙ same), inl is)
  | Greater ↦ λ e is. let same = ap (some_or a) is in (inl same, inr (subst (λ z. path_cmp z b ≡ Less) same (turned b a Greater e)), inl is)
] refl

lesser_of : (p : Path) (a b : Option Path) → lesser a b ≡ Some p → IsLesser p a b
lesser_of p (Some a) (Some b) is = lesser_of_two p a b is
lesser_of p (Some a) None is = (inl (ap (some_or a) is), tt, inl is)
lesser_of p None (Some b) is = (tt, inl (ap (some_or b) is), inr is)
lesser_of p None None is = absurd (true≢false (sym (ap there is)))

pub lesser_none : (a b : Option Path) → lesser a b ≡ None → (a ≡ None) × (b ≡ None)
lesser_none (Some a) (Some b) is = absurd (true≢false (ap there is))
lesser_none (Some a) None is = absurd (true≢false (ap there is))
lesser_none None b is = (refl, is)

at_most_none : (p : Path) (a : Option Path) → a ≡ None → AtMost p a
at_most_none p a is = subst (AtMost p) (sym is) tt

at_most_then : (p q : Path) (a : Option Path) → AtMost p (Some q) → AtMost q a → AtMost p a
at_most_then p q None first second = tt
at_most_then p q (Some a) (inl same) (inl same') = inl (same' ∙ same)
at_most_then p q (Some a) (inl same) (inr less) = inr (subst (λ z. path_cmp z a ≡ Less) same less)
at_most_then p q (Some a) (inr less) (inl same) = inr (subst (λ z. path_cmp p z ≡ Less) (sym same) less)
at_most_then p q (Some a) (inr less) (inr less') = inr (less_then p q a less less')

-- what holds of the least of three
abbrev pub IsLeast : Path → (a b c : Option Path) → Type 0
IsLeast p a b c = AtMost p a × AtMost p b × AtMost p c × ((a ≡ Some p) ⊎ ((b ≡ Some p) ⊎ (c ≡ Some p)))

pub least_of : (p : Path) (a b c : Option Path) → lesser a (lesser b c) ≡ Some p → IsLeast p a b c
least_of p a b c is =
    let first = lesser_of p a (lesser b c) is in
    elim (lesser b c) as (λ m. lesser b c ≡ m → AtMost p m → (a ≡ Some p) ⊎ (m ≡ Some p) → IsLeast p a b c) [
      | None ↦ λ e at some.
          let none = lesser_none b c e in
          (first.0, at_most_none p b none.0, at_most_none p c none.1, elim some [ inl here ↦ inl here | inr here ↦ absurd (true≢false (sym (ap there here))) ])
      | Some q ↦ λ e at some.
          let second = lesser_of q b c e in (
            first.0,
            at_most_then p q b at second.0,
            at_most_then p q c at second.1,
            elim some [
              | inl here ↦ inl here
              | inr here ↦ let same = ap (some_or q) here in elim second.2 [
                | inl b-is ↦ inr (inl (b-is ∙ ap Some same))
                | inr c-is ↦ inr (inr (c-is ∙ ap Some same))
              ]
            ],
          )
    ] refl first.1 first.2

-- ---- one list, at a path that is at most its first

module _ {T : Type 0} (key : T → Path) where
  abbrev pub at : Path → T → Bool
  at p row = bytes_eq (key row) p

  find_none : (p : Path) (rows : List T) → IsBelow p (map key rows) → find (at p) rows ≡ None
  find_none p [] below = refl
  find_none p (row ∷ rows) below =
      ap (λ b. cond b (Some row) (find (at p) rows)) (greater_differs p (key row) below.0) ∙ find_none p rows below.1

  -- the first row has the path, or none has
  pub found_first : (p : Path) (rows : List T) → Rise (map key rows) → AtMost p (first_path key rows) → find (at p) rows ≡ head_at key p rows
  unfolding IsStrictlySortedBy
  found_first p [] rise most = refl
  found_first p (row ∷ rows) rise (inl is) =
      let here : at p row ≡ true = subst (λ z. bytes_eq (key row) z ≡ true) is (eq_itself (key row)) in
      ap (λ b. cond b (Some row) (find (at p) rows)) here ∙ sym (ap (λ b. cond b (Some row) None) here)
  found_first p (row ∷ rows) rise (inr less) =
      let off : at p row ≡ false = greater_differs p (key row) less in
      ap (λ b. cond b (Some row) (find (at p) rows)) off
      ∙ find_none p rows (below_chain p (key row) (map key rows) less rise.0)
      ∙ sym (ap (λ b. cond b (Some row) None) off)

  -- a path above it is found in the rest
  pub found_later : (p q : Path) (rows : List T) → path_cmp p q ≡ Less → find (at q) rows ≡ find (at q) (rest_at key p rows)
  found_later p q [] less = refl
  found_later p q (row ∷ rows) less =
      elim (at p row) as (λ b. at p row ≡ b → find (at q) (row ∷ rows) ≡ find (at q) (cond b rows (row ∷ rows))) [
        | true ↦ λ e. ap (λ b. cond b (Some row) (find (at q) rows)) (ap (λ z. bytes_eq z q) (eq_is_same (key row) p e) ∙ less_differs p q less)
        | false ↦ λ e. refl
      ] refl

  pub rest_rise : (p : Path) (rows : List T) → Rise (map key rows) → Rise (map key (rest_at key p rows))
  unfolding IsStrictlySortedBy
  rest_rise p [] rise = rise
  rest_rise p (row ∷ rows) rise = elim (at p row) as (λ b. Rise (map key (cond b rows (row ∷ rows)))) [ true ↦ rise.1 | false ↦ rise ]

  pub rest_below : (p : Path) (rows : List T) → Rise (map key rows) → AtMost p (first_path key rows) → IsBelow p (map key (rest_at key p rows))
  unfolding IsStrictlySortedBy
  rest_below p [] rise most = tt
  rest_below p (row ∷ rows) rise most =
      elim (at p row) as (λ b. at p row ≡ b → IsBelow p (map key (cond b rows (row ∷ rows)))) [
        | true ↦ λ e. subst (λ z. IsBelow z (map key rows)) (eq_is_same (key row) p e) rise.0
        | false ↦ λ e. elim most [
          | inl is ↦ absurd (true≢false (sym (subst (λ z. bytes_eq (key row) z ≡ true) is (eq_itself (key row))) ∙ e))
          | inr less ↦ (less, below_chain p (key row) (map key rows) less rise.0)
        ]
      ] refl

  pub has_rest : (p q : Path) (rows : List T) → bytes_eq p q ≡ false → has (map key rows) q ≡ has (map key (rest_at key p rows)) q
  has_rest p q [] off = refl
  has_rest p q (row ∷ rows) off =
      elim (at p row) as (λ b. at p row ≡ b → has (map key (row ∷ rows)) q ≡ has (map key (cond b rows (row ∷ rows))) q) [
        | true ↦ λ e. ap (λ b. b || has (map key rows) q) (ap (λ z. bytes_eq z q) (eq_is_same (key row) p e) ∙ off)
        | false ↦ λ e. refl
      ] refl

  pub has_first_path : (p : Path) (rows : List T) → first_path key rows ≡ Some p → has (map key rows) p ≡ true
  has_first_path p [] is = absurd (true≢false (sym (ap there is)))
  has_first_path p (row ∷ rows) is =
      let same = ap (some_or (key row)) is in
      ap (λ b. b || has (map key rows) p) (subst (λ z. bytes_eq (key row) z ≡ true) same (eq_itself (key row)))

  pub none_left : (rows : List T) → first_path key rows ≡ None → rows ≡ []
  none_left [] is = refl
  none_left (row ∷ rows) is = absurd (true≢false (ap there is))

-- ---- three lists

abbrev pub found_path : FoundRow → Path
found_path row = row.path

abbrev pub kept_path : BaselineRow → Path
kept_path row = row.path

abbrev pub living_path : Holding → Path
living_path holding = holding.path

or_true : (a : Bool) → (a || true) ≡ true
or_true true = refl
or_true false = refl

has_append : (xs ys : List Path) (q : Path) → has (xs ++ ys) q ≡ (has xs q || has ys q)
has_append [] ys q = refl
has_append (x ∷ xs) ys q = ap (λ b. bytes_eq x q || b) (has_append xs ys q) ∙ or_assoc (bytes_eq x q) (has xs q) (has ys q)
  where
    or_assoc : (a b c : Bool) → (a || (b || c)) ≡ ((a || b) || c)
    or_assoc true b c = refl
    or_assoc false b c = refl

abbrev pub three : List FoundRow → List BaselineRow → List Holding → List Path
three found kept living = map found_path found ++ map kept_path kept ++ map living_path living

pub three_has : (found : List FoundRow) (kept : List BaselineRow) (living : List Holding) (q : Path)
    → has (three found kept living) q ≡ ((has (map found_path found) q || has (map kept_path kept) q) || has (map living_path living) q)
three_has found kept living q =
    has_append (map found_path found ++ map kept_path kept) (map living_path living) q
    ∙ ap (λ b. b || has (map living_path living) q) (has_append (map found_path found) (map kept_path kept) q)

-- the rest of the three lists, after a path was taken off
abbrev rest_of : Path → List FoundRow → List BaselineRow → List Holding → List Path
rest_of p found kept living = three (rest_at found_path p found) (rest_at kept_path p kept) (rest_at living_path p living)

module _ (p : Path) (found : List FoundRow) (kept : List BaselineRow) (living : List Holding)
    (rf : RowsRise found) (rk : MarksRise kept) (rl : HoldingsRise living)
    (least : IsLeast p (first_path found_path found) (first_path kept_path kept) (first_path living_path living)) where
  below_rest : IsBelow p (rest_of p found kept living)
  below_rest =
      below_append p (map found_path (rest_at found_path p found) ++ map kept_path (rest_at kept_path p kept)) _
      (below_append p (map found_path (rest_at found_path p found)) _
      (rest_below found_path p found rf least.0)
      (rest_below kept_path p kept rk least.1))
      (rest_below living_path p living rl least.2)

  three_has_first : has (three found kept living) p ≡ true
  three_has_first = three_has found kept living p ∙ elim least.3 [
    | inl here ↦ ap (λ b. (b || has (map kept_path kept) p) || has (map living_path living) p) (has_first_path found_path p found here)
    | inr more ↦ elim more [
      | inl here ↦ ap (λ b. (has (map found_path found) p || b) || has (map living_path living) p) (has_first_path kept_path p kept here)
          ∙ ap (λ b. b || has (map living_path living) p) (or_true (has (map found_path found) p))
      | inr here ↦ ap (λ b. (has (map found_path found) p || has (map kept_path kept) p) || b) (has_first_path living_path p living here)
          ∙ or_true (has (map found_path found) p || has (map kept_path kept) p)
    ]
  ]

  same_has : (q : Path) → has (in_order (three found kept living)) q ≡ has (p ∷ in_order (rest_of p found kept living)) q
  same_has q = in_order_has (three found kept living) q ∙ elim (bytes_eq p q) as (λ b. bytes_eq p q ≡ b
      → has (three found kept living) q ≡ (b || has (in_order (rest_of p found kept living)) q)) [
        | true ↦ λ e. subst (λ z. has (three found kept living) z ≡ true) (eq_is_same p q e) three_has_first
        | false ↦ λ e.
            three_has found kept living q
            ∙ (λ i. (has_rest found_path p q found e i || has_rest kept_path p q kept e i) || has_rest living_path p q living e i)
            ∙ sym (three_has (rest_at found_path p found) (rest_at kept_path p kept) (rest_at living_path p living) q)
            ∙ sym (in_order_has (rest_of p found kept living) q)
      ] refl

  next_rises : Rise (p ∷ in_order (rest_of p found kept living))
  unfolding IsStrictlySortedBy
  next_rises = (in_order_below p (rest_of p found kept living) below_rest, in_order_rise (rest_of p found kept living))

  paths_next : paths_of found kept living ≡ p ∷ in_order (rest_of p found kept living)
  paths_next = same_paths (in_order (three found kept living)) (p ∷ in_order (rest_of p found kept living)) (in_order_rise (three found kept living)) next_rises same_has

  known_later : (q : Path) → path_cmp p q ≡ Less
      → at_path found kept living q ≡ at_path (rest_at found_path p found) (rest_at kept_path p kept) (rest_at living_path p living) q
  known_later q less = λ i. record {
    path = q;
    found = option_map (λ row. row.found) (found_later found_path p q found less i);
    mark = option_map (λ row. row.mark) (found_later kept_path p q kept less i);
    living = found_later living_path p q living less i;
  }

  known_first : at_path found kept living p ≡ record {
    path = p;
    found = option_map (λ row. row.found) (head_at found_path p found);
    mark = option_map (λ row. row.mark) (head_at kept_path p kept);
    living = head_at living_path p living;
  }
  known_first = λ i. record {
    path = p;
    found = option_map (λ row. row.found) (found_first found_path p found rf least.0 i);
    mark = option_map (λ row. row.mark) (found_first kept_path p kept rk least.1 i);
    living = found_first living_path p living rl least.2 i;
  }

  map_later : (paths : List Path) → IsBelow p paths
      → map (at_path found kept living) paths ≡ map (at_path (rest_at found_path p found) (rest_at kept_path p kept) (rest_at living_path p living)) paths
  map_later [] below = refl
  map_later (q ∷ paths) below = λ i. known_later q below.0 i ∷ map_later paths below.1 i

  -- the first of what is known stands at the heads of the lists, and all others are those of the rest
  pub at_paths_next : at_paths found kept living ≡ record {
    path = p;
    found = option_map (λ row. row.found) (head_at found_path p found);
    mark = option_map (λ row. row.mark) (head_at kept_path p kept);
    living = head_at living_path p living;
  } ∷ at_paths (rest_at found_path p found) (rest_at kept_path p kept) (rest_at living_path p living)
  at_paths_next =
      ap (map (at_path found kept living)) paths_next
      ∙ (λ i. known_first i ∷ map_later (in_order (rest_of p found kept living)) (in_order_below p (rest_of p found kept living) below_rest) i)

-- ---- holdings behind references

abbrev lent_path : Bor Holding → Path
lent_path holding = holding.now.path

abbrev pub lent : List (Bor Holding) → List Holding
lent = map (λ holding. holding.now)

first_lent : (living : List (Bor Holding)) → first_path lent_path living ≡ first_path living_path (lent living)
first_lent [] = refl
first_lent (holding ∷ living) = refl

head_lent : (p : Path) (living : List (Bor Holding)) → option_copied (head_at lent_path p living) ≡ head_at living_path p (lent living)
head_lent p [] = refl
head_lent p (holding ∷ living) =
    elim (bytes_eq holding.now.path p) as (λ b. option_copied (cond b (Some holding) None) ≡ cond b (Some holding.now) None) [ true ↦ refl | false ↦ refl ]

rest_lent : (p : Path) (living : List (Bor Holding)) → lent (rest_at lent_path p living) ≡ rest_at living_path p (lent living)
rest_lent p [] = refl
rest_lent p (holding ∷ living) =
    elim (bytes_eq holding.now.path p) as (λ b. lent (cond b living (holding ∷ living)) ≡ cond b (lent living) (lent (holding ∷ living))) [ true ↦ refl | false ↦ refl ]

abbrev least_path : List FoundRow → List BaselineRow → List (Bor Holding) → Option Path
least_path found kept living = lesser (first_path found_path found) (lesser (first_path kept_path kept) (first_path lent_path living))

least_lent : (found : List FoundRow) (kept : List BaselineRow) (living : List (Bor Holding))
    → least_path found kept living ≡ lesser (first_path found_path found) (lesser (first_path kept_path kept) (first_path living_path (lent living)))
least_lent found kept living = ap (λ it. lesser (first_path found_path found) (lesser (first_path kept_path kept) it)) (first_lent living)

pub next_known : (found : List FoundRow) (kept : List BaselineRow) (living : List (Bor Holding)) (p : Path)
    → RowsRise found → MarksRise kept → HoldingsRise (lent living) → Some p ≡ least_path found kept living
    → at_paths found kept (lent living) ≡ record {
      path = p;
      found = option_map (λ row. row.found) (head_at found_path p found);
      mark = option_map (λ row. row.mark) (head_at kept_path p kept);
      living = option_copied (head_at lent_path p living);
    } ∷ at_paths (rest_at found_path p found) (rest_at kept_path p kept) (lent (rest_at lent_path p living))
next_known found kept living p rf rk rl is =
    let least = least_of p _ _ _ (sym (is ∙ least_lent found kept living)) in
    at_paths_next p found kept (lent living) rf rk rl least
    ∙ (λ i. record {
      path = p;
      found = option_map (λ row. row.found) (head_at found_path p found);
      mark = option_map (λ row. row.mark) (head_at kept_path p kept);
      living = sym (head_lent p living) i;
    } ∷ at_paths (rest_at found_path p found) (rest_at kept_path p kept) (sym (rest_lent p living) i))

pub rest_lent_rise : (p : Path) (living : List (Bor Holding)) → HoldingsRise (lent living) → HoldingsRise (lent (rest_at lent_path p living))
rest_lent_rise p living rise = subst HoldingsRise (sym (rest_lent p living)) (rest_rise living_path p (lent living) rise)

pub found_rest_rise : (p : Path) (found : List FoundRow) → RowsRise found → RowsRise (rest_at found_path p found)
found_rest_rise = rest_rise found_path

pub kept_rest_rise : (p : Path) (kept : List BaselineRow) → MarksRise kept → MarksRise (rest_at kept_path p kept)
kept_rest_rise = rest_rise kept_path
