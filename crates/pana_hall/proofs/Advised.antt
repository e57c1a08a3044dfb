-- What a status says of the updates that copies know.
use Rattle.pana_hall.proofs.Words.{◌≡◌, ℕ, ◌<◌, ◌≤◌, ◌⊎◌, Bool, true, false, cond, not, ◌&&◌, ◌==◌, nat_le, nat_lt, List, [], ◌∷◌, ◌++◌, map, filter, length, find, count_by, take, drop}
use Rattle.pana_hall.proofs.Words.{Option, Some, unwrap_or, AllByRecursion, list_any, refl, sym, ap, ◌∙◌, subst, inl, inr, arith, nat_tests, length-filter, take_all, take-append-drop, eqb-true, eq-eqb, cases_lt, ap₂}
use Rattle.pana_hall.proofs.Words.{Entry, Copy, copy_in, living, is_of, IsAccepted, AreRising, In, cases_Bool}
use Rattle.std.proofs.lemmas.Bool.{le-leb, leb-true, not-true}
use Rattle.std.proofs.lemmas.List.{length-take, length-take-le}
use Rattle.pana_event.specs.declared.rel.Rel.{Rel}
use Rattle.pana_event.specs.declared.rel.Rel.TheVariants as rels
use Rattle.pana_rel.specs.Board.{is_rel, newest_of, relates}
use Rattle.pana_family.specs.Relation.{relation}
use Rattle.pana_family.specs.Updates.{IsSubset, is_within}
use Rattle.pana_family.proofs.Relations.{relates as by_sets, subset_within, within_subset}
use Rattle.pana_family.proofs.Members.{any_from, any_some, in_append, in_filter, in_right, to_filter}
use Rattle.pana_calls.specs.declared.standing.{CopyState.CopyState, StatusRow.StatusRow}
use Rattle.pana_calls.specs.declared.standing.CopyState.TheVariants.{Newest, Obsolete, Conflict}
use Rattle.pana_hall.specs.Status.{copy_relation, family_copies, is_asked, is_listed, is_newest, state_among, status_row, status_rows, with_of}
use Rattle.pana_hall.specs.laws.Advice.{Advises, IsAdvised, IsInState, IsNewest, KnowsAllOf, KnowsMost, Reach}
use Rattle.pana_hall.proofs.Lists.{each_left, each_map, rises_filter, rises_map}
use Rattle.pana_hall.proofs.{Related.each_from, Related.each_in, Answered.any_count, Places.living_found, Runs.rising}

-- Relations of sets by their tests.

is_rel_true : (r w : Rel) → is_rel r w ≡ true → r ≡ w
is_rel_true rels.Equal rels.Equal e = refl
is_rel_true rels.Older rels.Older e = refl
is_rel_true rels.Newer rels.Newer e = refl
is_rel_true rels.Conflict rels.Conflict e = refl
is_rel_true r w e = absurd (cc)

is_rel_from : (r w : Rel) → r ≡ w → is_rel r w ≡ true
is_rel_from r rels.Equal e = rw e refl
is_rel_from r rels.Older e = rw e refl
is_rel_from r rels.Newer e = rw e refl
is_rel_from r rels.Conflict e = rw e refl

-- the other knows all that it knows, and more
abbrev pub newer : Copy → Copy → Bool
newer x y = is_rel (copy_relation y x) rels.Newer

pub newer_sets : (x y : Copy) → newer x y ≡ true → KnowsAllOf y x × ¬ KnowsAllOf x y
newer_sets x y e = let both = (by_sets y.known.set x.known.set).newer.0 (is_rel_true _ _ e) in (both.0, both.1)

newer_from : (x y : Copy) → KnowsAllOf y x → ¬ KnowsAllOf x y → newer x y ≡ true
newer_from x y all more = is_rel_from _ rels.Newer ((by_sets y.known.set x.known.set).newer.1 (all, more))

newer_trans : (x y z : Copy) → newer x y ≡ true → newer y z ≡ true → newer x z ≡ true
newer_trans x y z e f =
    let a = newer_sets x y e in
    let b = newer_sets y z f in
    newer_from x z (λ u k. b.0 u (a.0 u k)) (λ all. b.1 (λ u k. a.0 u (all u k)))

newer_itself : (x : Copy) → newer x x ≡ false
newer_itself x = elim (cases_Bool (newer x x)) [ inl e ↦ absurd ((newer_sets x x e).1 (λ u k. k)) | inr e ↦ e ]

-- what isn't newer knows no more, where it knows all
not_newer : (a b : List ℕ) → is_rel (relation a b) rels.Newer ≡ false → IsSubset b a → IsSubset a b
not_newer a b e subset = within_subset a b (by_test (is_within a b) (is_within b a) (subset_within b a subset) e)
  where
    by_test : (p q : Bool) → q ≡ true → is_rel (cond p (cond q rels.Equal rels.Older) (cond q rels.Newer rels.Conflict)) rels.Newer ≡ false → p ≡ true
    by_test true q f e = refl
    by_test false true f e = absurd (cc)
    by_test false false f e = absurd (cc)

-- and what is neither newer nor in conflict knows no more
pub not_more : (a b : List ℕ) → is_rel (relation a b) rels.Newer ≡ false → is_rel (relation a b) rels.Conflict ≡ false → IsSubset a b
not_more a b e f = within_subset a b (by_test (is_within a b) (is_within b a) e f)
  where
    by_test : (p q : Bool) → is_rel (cond p (cond q rels.Equal rels.Older) (cond q rels.Newer rels.Conflict)) rels.Newer ≡ false
        → is_rel (cond p (cond q rels.Equal rels.Older) (cond q rels.Newer rels.Conflict)) rels.Conflict ≡ false → p ≡ true
    by_test true q e f = refl
    by_test false true e f = absurd (cc)
    by_test false false e f = absurd (cc)

-- Lists.

pub find_in : {X : Type 0} (p : X → Bool) (xs : List X) (x : X) → find p xs ≡ Some x → In x xs × (p x ≡ true)
find_in p [] x e = absurd (cc)
find_in p (y ∷ xs) x e =
    elim (p y) as (λ b. p y ≡ b → cond b (Some y) (find p xs) ≡ Some x → In x (y ∷ xs) × (p x ≡ true)) [
      | true ↦ λ t f. let same : x ≡ y = cc in (inl same, ap p same ∙ t)
      | false ↦ λ t f. let rest = find_in p xs x f in (inr rest.0, rest.1)
    ] refl e

-- the first that passes, where one does
pub find_some : {X : Type 0} (p : X → Bool) (xs : List X) (x : X) → In x xs → p x ≡ true → (y : X) × (find p xs ≡ Some y)
find_some p [] x i e = absurd i
find_some {X = X} p (y ∷ xs) x i e =
    elim (p y) as (λ b. p y ≡ b → (z : X) × (cond b (Some y) (find p xs) ≡ Some z)) [
      | true ↦ λ t. (y, refl)
      | false ↦ λ t. elim i [
        | inl same ↦ absurd (let odd : p y ≡ true = ap p (sym same) ∙ e in cc)
        | inr j ↦ find_some p xs x j e
      ]
    ] refl

none_from : {X : Type 0} (p : X → Bool) (xs : List X) (x : X) → list_any p xs ≡ false → In x xs → p x ≡ false
none_from p xs x none i = elim (cases_Bool (p x)) [ inl e ↦ absurd (let odd = any_from p xs x i e in cc) | inr e ↦ e ]

-- above each of some copies there is one of them to which none of them is newer
pub top : (xs : List Copy) (x : Copy) → (r : Copy) × ((r ≡ x) ⊎ (In r xs × (newer x r ≡ true))) × ((y : Copy) → In y xs → newer r y ≡ false)
top [] x = (x, inl refl, λ y i. absurd i)
top (y ∷ xs) x = elim (cases_Bool (newer x y)) [
  | inl e ↦
      let t = top xs y in
      let above : (In t.0 (y ∷ xs) × (newer x t.0 ≡ true)) × (newer t.0 y ≡ false) = elim t.1 [
        | inl is ↦ ((inl is, ap (newer x) is ∙ e), ap (λ r. newer r y) is ∙ newer_itself y)
        | inr h ↦ ((inr h.0, newer_trans x y t.0 e h.1), elim (cases_Bool (newer t.0 y)) [ inl f ↦ absurd (let odd = newer_trans y t.0 y h.1 f in let no = newer_itself y in cc) | inr f ↦ f ])
      ] in
      (t.0, inr above.0, λ z i. elim i [ inl is ↦ ap (newer t.0) is ∙ above.1 | inr j ↦ t.2 z j ])
  | inr e ↦
      let t = top xs x in
      let below : newer t.0 y ≡ false = elim t.1 [
        | inl is ↦ ap (λ r. newer r y) is ∙ e
        | inr h ↦ elim (cases_Bool (newer t.0 y)) [ inl f ↦ absurd (let odd = newer_trans x t.0 y h.1 f in cc) | inr f ↦ f ]
      ] in
      (t.0, elim t.1 [ inl is ↦ inl is | inr h ↦ inr (inr h.0, h.1) ], λ z i. elim i [ inl is ↦ ap (newer t.0) is ∙ below | inr j ↦ t.2 z j ])
]

pub none_any : {X : Type 0} (p : X → Bool) (xs : List X) → ((x : X) → In x xs → p x ≡ false) → list_any p xs ≡ false
none_any p xs none = elim (cases_Bool (list_any p xs)) [ inl e ↦ absurd (let some = any_some p xs e in let odd = none some.0 some.1 in let is = some.2 in cc) | inr e ↦ e ]

any_by : {X : Type 0} (p : X → Bool) (xs : List X) → list_any p xs ≡ nat_lt 0 (count_by p xs)
any_by p xs = any_count p xs ∙ ap (nat_lt 0) (length-filter p xs)

in_map : {X Y : Type 0} (f : X → Y) (xs : List X) (x : X) → In x xs → In (f x) (map f xs)
in_map f [] x i = absurd i
in_map f (y ∷ xs) x i = elim i [ inl is ↦ inl (ap f is) | inr j ↦ inr (in_map f xs x j) ]

-- Rising lists.

pub rises_in : {X : Type 0} (key : X → ℕ) (low : ℕ) (xs : List X) (x : X) → AreRising key low xs → In x xs → low < key x
rises_in key low [] x rises i = absurd i
rises_in key low (y ∷ xs) x rises i = elim i [
  | inl is ↦ omega (arith, rises.0, ap key is)
  | inr j ↦ omega (arith, rises.0, rises_in key (key y) xs x rises.1 j)
]

rises_left : {X : Type 0} (key : X → ℕ) (low : ℕ) (xs ys : List X) → AreRising key low (xs ++ ys) → AreRising key low xs
rises_left key low [] ys rises = tt
rises_left key low (x ∷ xs) ys rises = (rises.0, rises_left key (key x) xs ys rises.1)

-- what comes earlier has a smaller key
rises_apart : {X : Type 0} (key : X → ℕ) (low : ℕ) (xs ys : List X) (x y : X) → AreRising key low (xs ++ ys) → In x xs → In y ys → key x < key y
rises_apart key low [] ys x y rises i j = absurd i
rises_apart key low (z ∷ xs) ys x y rises i j = elim i [
  | inl is ↦ omega (arith, ap key is, rises_in key (key z) (xs ++ ys) y rises.1 (in_right y xs ys j))
  | inr k ↦ rises_apart key (key z) xs ys x y rises.1 k j
]

short_take : {X : Type 0} (n : ℕ) (xs : List X) → length (take n xs) < n → take n xs ≡ xs
short_take n xs short = elim (cases_lt (length xs) n) [
  | inl h ↦ take_all n xs (omega arith)
  | inr h ↦ absurd (omega (arith, short, length-take-le n xs h))
]

-- as far as the first ones reach, each is one of them
in_first : {X : Type 0} (key : X → ℕ) (n : ℕ) (xs : List X) (x : X) → AreRising key 0 xs → In x xs → (length (take n xs) < n) ⊎ (list_any (λ y. nat_le (key x) (key y)) (take n xs) ≡ true) → In x (take n xs)
in_first key n xs x rises i reach = elim reach [
  | inl short ↦ subst (λ l. In x l) (sym (short_take n xs short)) i
  | inr far ↦
      let last = any_some (λ y. nat_le (key x) (key y)) (take n xs) far in
      elim (in_append x (take n xs) (drop n xs) (subst (λ l. In x l) (sym (take-append-drop n xs)) i)) [
        | inl j ↦ j
        | inr j ↦ absurd (omega (arith, leb-true (key x) (key last.0) last.2, rises_apart key 0 (take n xs) (drop n xs) last.0 x (subst (AreRising key 0) (sym (take-append-drop n xs)) rises) last.1 j))
      ]
]

-- Copies of one family.

conflicts_itself : (a : List ℕ) → is_rel (relation a a) rels.Conflict ≡ false
conflicts_itself a = elim (cases_Bool (is_rel (relation a a) rels.Conflict)) [
  | inl e ↦ absurd (((by_sets a a).conflict.0 (is_rel_true _ _ e)).0 (λ u k. k))
  | inr e ↦ e
]

abbrev against : Rel → Copy → Copy → Bool
against wanted x y = relates (λ c. c.known.copy) copy_relation wanted x y

module _ (journal : List Entry) (accepted : IsAccepted 8 journal) where
  abbrev copies : List Copy
  copies = living journal

  found : (x : Copy) → In x copies → copy_in copies x.known.copy ≡ Some x
  found x i = each_in _ copies x (living_found 8 journal accepted) i

  -- copies with one number are one, so that the relation alone counts
  relates_is : (wanted : Rel) (x y : Copy) → In x copies → In y copies → is_rel (copy_relation x x) wanted ≡ false → against wanted x y ≡ is_rel (copy_relation y x) wanted
  relates_is wanted x y i j itself =
      elim (y.known.copy == x.known.copy) as (λ b. (y.known.copy == x.known.copy) ≡ b → (not b && is_rel (copy_relation y x) wanted) ≡ is_rel (copy_relation y x) wanted) [
        | true ↦ λ e.
            let number = eqb-true y.known.copy x.known.copy e in
            let here = found x i in
            let there = found y j in
            let same : y ≡ x = cc in
            sym (ap (λ c. is_rel (copy_relation c x) wanted) same ∙ itself)
        | false ↦ λ e. refl
      ] refl

  newer_is : (x y : Copy) → In x copies → In y copies → against rels.Newer x y ≡ newer x y
  newer_is x y i j = relates_is rels.Newer x y i j (newer_itself x)

  conflict_is : (x y : Copy) → In x copies → In y copies → against rels.Conflict x y ≡ is_rel (copy_relation y x) rels.Conflict
  conflict_is x y i j = relates_is rels.Conflict x y i j (conflicts_itself x.known.set)

  of_family : (x y : Copy) → In y (family_copies copies x) → In y copies × (y.family ≡ x.family)
  of_family x y i = let k = in_filter (is_of x.family) copies y i in (k.0, eqb-true y.family x.family k.1)

  to_family : (x y : Copy) → In y copies → y.family ≡ x.family → In y (family_copies copies x)
  to_family x y i e = to_filter (is_of x.family) copies y i (eq-eqb y.family x.family e)

  state_is : (x : Copy) → state_among copies x ≡ cond (list_any (against rels.Newer x) (family_copies copies x)) Obsolete (cond (list_any (against rels.Conflict x) (family_copies copies x)) Conflict Newest)
  state_is x = ap₂ (λ (a b : Bool). cond a Obsolete (cond b Conflict Newest)) (sym (any_by (against rels.Newer x) (family_copies copies x))) (sym (any_by (against rels.Conflict x) (family_copies copies x)))

  -- a copy than which none is newer by its family's tests
  free_newest : (x : Copy) → In x copies → list_any (against rels.Newer x) (family_copies copies x) ≡ false → IsNewest copies x
  free_newest x i none other j of all =
      not_newer other.known.set x.known.set (sym (newer_is x other i j) ∙ none_from (against rels.Newer x) (family_copies copies x) other none (to_family x other j of)) all

  -- an obsolete copy has one to replace it
  pub replaced : (x : Copy) → In x copies → list_any (against rels.Newer x) (family_copies copies x) ≡ true
      → (w : Copy) × (with_of copies x Obsolete ≡ Some w) × In w copies × (w.family ≡ x.family) × IsAdvised copies x w Obsolete
  replaced x i some =
      let own = family_copies copies x in
      let first = any_some (against rels.Newer x) own some in
      let above = top own first.0 in
      let first_newer : newer x first.0 ≡ true = sym (newer_is x first.0 i (of_family x first.0 first.1).0) ∙ first.2 in
      let r = above.0 in
      let there : In r own × (newer x r ≡ true) = elim above.1 [
        | inl is ↦ (subst (λ c. In c own) (sym is) first.1, ap (newer x) is ∙ first_newer)
        | inr h ↦ (h.0, newer_trans x first.0 r first_newer h.1)
      ] in
      let lives = (of_family x r there.0).0 in
      let free : list_any (against rels.Newer r) own ≡ false = none_any (against rels.Newer r) own (λ y j. newer_is r y lives (of_family x y j).0 ∙ above.2 y j) in
      let last : In r (newest_of (λ c. c.known.copy) copy_relation own) = to_filter (λ z. not (list_any (against rels.Newer z) own)) own r there.0 (ap not free) in
      let with = find_some (against rels.Newer x) (newest_of (λ c. c.known.copy) copy_relation own) r last (newer_is x r i lives ∙ there.1) in
      let w = with.0 in
      let passes = find_in (against rels.Newer x) (newest_of (λ c. c.known.copy) copy_relation own) w with.1 in
      let newest = in_filter (λ z. not (list_any (against rels.Newer z) own)) own w passes.0 in
      let of = of_family x w newest.0 in
      let sets = newer_sets x w (sym (newer_is x w i of.0) ∙ passes.1) in
      let none : list_any (against rels.Newer w) (family_copies copies w) ≡ false =
      ap (λ f. list_any (against rels.Newer w) (filter (is_of f) copies)) of.1 ∙ not-true _ newest.1 in
      (w, with.1, of.0, of.1, (sets.0, sets.1, free_newest w of.0 none))

  -- one in conflict has one to be merged with
  pub merged_with : (x : Copy) → In x copies → list_any (against rels.Newer x) (family_copies copies x) ≡ false → list_any (against rels.Conflict x) (family_copies copies x) ≡ true
      → (w : Copy) × (with_of copies x Conflict ≡ Some w) × In w copies × (w.family ≡ x.family) × IsAdvised copies x w Conflict
  merged_with x i none some =
      let own = family_copies copies x in
      let first = any_some (against rels.Conflict x) own some in
      let with = find_some (against rels.Conflict x) own first.0 first.1 first.2 in
      let w = with.0 in
      let passes = find_in (against rels.Conflict x) own w with.1 in
      let of = of_family x w passes.0 in
      let sets = (by_sets w.known.set x.known.set).conflict.0 (is_rel_true _ _ (sym (conflict_is x w i of.0) ∙ passes.1)) in
      (w, with.1, of.0, of.1, (sets.1, sets.0, free_newest x i none))

  -- the row of a copy with its advice
  row_advises : (x w : Copy) (state : CopyState) → In x copies → state_among copies x ≡ state → with_of copies x state ≡ Some w → In w copies → w.family ≡ x.family → IsAdvised copies x w state → Advises copies (status_row copies x)
  unfolding status_row
  row_advises x w state i e with j of advised =
      let is : unwrap_or (with_of copies x (state_among copies x)) x ≡ w = ap (λ s. unwrap_or (with_of copies x s) x) e ∙ ap (λ o. unwrap_or o x) with in
      record {
        copy = x;
        with = w;
        lives = found x i;
        place = refl;
        with_lives = ap (λ (c : Copy). copy_in copies c.known.copy) is ∙ found w j;
        with_place = ap (λ (c : Copy). c.place) is;
        family = of;
        advised = subst (IsAdvised copies x w) (sym e) advised;
      }

  advises : (x : Copy) → In x copies → is_newest (state_among copies x) ≡ false → Advises copies (status_row copies x)
  advises x i later =
      let own = family_copies copies x in
      elim (cases_Bool (list_any (against rels.Newer x) own)) [
        | inl e ↦ let w = replaced x i e in row_advises x w.0 Obsolete i (state_is x ∙ ap (λ b. cond b Obsolete (cond (list_any (against rels.Conflict x) own) Conflict Newest)) e) w.1 w.2 w.3 w.4
        | inr e ↦
            let state : state_among copies x ≡ cond (list_any (against rels.Conflict x) own) Conflict Newest =
            state_is x ∙ ap (λ b. cond b Obsolete (cond (list_any (against rels.Conflict x) own) Conflict Newest)) e in
            elim (cases_Bool (list_any (against rels.Conflict x) own)) [
              | inl f ↦ let w = merged_with x i e f in row_advises x w.0 Conflict i (state ∙ ap (λ b. cond b Conflict Newest) f) w.1 w.2 w.3 w.4
              | inr f ↦ absurd (let odd : is_newest (state_among copies x) ≡ true = ap is_newest (state ∙ ap (λ b. cond b Conflict Newest) f) in cc)
            ]
      ]

  -- a newest copy knows all
  knows_most : (x : Copy) → In x copies → is_newest (state_among copies x) ≡ true → KnowsMost copies x
  knows_most x i newest other j of =
      let own = family_copies copies x in
      let none = free_state (list_any (against rels.Newer x) own) (list_any (against rels.Conflict x) own) (ap is_newest (sym (state_is x)) ∙ newest) in
      not_more other.known.set x.known.set (sym (newer_is x other i j) ∙ none_from (against rels.Newer x) own other none.0 (to_family x other j of))
      (sym (conflict_is x other i j) ∙ none_from (against rels.Conflict x) own other none.1 (to_family x other j of))
    where
      free_state : (a b : Bool) → is_newest (cond a Obsolete (cond b Conflict Newest)) ≡ true → (a ≡ false) × (b ≡ false)
      free_state true b e = absurd (cc)
      free_state false true e = absurd (cc)
      free_state false false e = (refl, refl)

  -- so each copy is in its state by what copies know
  pub stated : (x : Copy) → In x copies → IsInState copies x (state_among copies x)
  stated x i =
      let own = family_copies copies x in
      elim (cases_Bool (list_any (against rels.Newer x) own)) [
        | inl e ↦ let w = replaced x i e in subst (IsInState copies x) (sym (state_is x ∙ ap (λ b. cond b Obsolete (cond (list_any (against rels.Conflict x) own) Conflict Newest)) e)) (w.0, w.2, w.3, w.4)
        | inr e ↦
            let state : state_among copies x ≡ cond (list_any (against rels.Conflict x) own) Conflict Newest =
            state_is x ∙ ap (λ b. cond b Obsolete (cond (list_any (against rels.Conflict x) own) Conflict Newest)) e in
            elim (cases_Bool (list_any (against rels.Conflict x) own)) [
              | inl f ↦ let w = merged_with x i e f in subst (IsInState copies x) (sym (state ∙ ap (λ b. cond b Conflict Newest) f)) (w.0, w.2, w.3, w.4)
              | inr f ↦ let is = state ∙ ap (λ b. cond b Conflict Newest) f in subst (IsInState copies x) (sym is) (knows_most x i (ap is_newest is))
            ]
      ]

  -- all rows of a status advise rightly
  pub rows_advise : (device : Option (List ℕ)) (from : ℕ) → AllByRecursion (Advises copies) (status_rows copies device from)
  unfolding status_rows is_listed
  rows_advise device from =
      let test : Copy → Bool = λ c. nat_le from c.known.copy && (is_asked device c.place && not (is_newest (state_among copies c))) in
      let whole = map (status_row copies) (filter test copies) in
      each_left (Advises copies) (take 100 whole) (drop 100 whole)
      (subst (AllByRecursion (Advises copies)) (sym (take-append-drop 100 whole))
      (each_map (Advises copies) (status_row copies) (filter test copies) (each_from _ (filter test copies) (λ x i. let k = in_filter test copies x i in advises x k.0 (later (nat_le from x.known.copy) (is_asked device x.place) (is_newest (state_among copies x)) k.1)))))
    where
      later : (a b c : Bool) → (a && (b && not c)) ≡ true → c ≡ false
      later a b true e = absurd (grind (arith, nat_tests))
      later a b false e = refl

  -- they rise
  rises_whole : (device : Option (List ℕ)) (from : ℕ) → AreRising (λ (row : StatusRow). row.copy) 0 (map (status_row copies) (filter (λ c. nat_le from c.known.copy && is_listed copies device c) copies))
  unfolding status_row
  rises_whole device from =
      let test : Copy → Bool = λ c. nat_le from c.known.copy && is_listed copies device c in
      rises_map (status_row copies) (λ c. c.known.copy) (λ row. row.copy) (λ c. refl) 0 (filter test copies) (rises_filter (λ c. c.known.copy) 0 test copies (rising 8 journal accepted).0)

  pub rows_rise : (device : Option (List ℕ)) (from : ℕ) → AreRising (λ (row : StatusRow). row.copy) 0 (status_rows copies device from)
  unfolding status_rows
  rows_rise device from =
      let whole = map (status_row copies) (filter (λ c. nat_le from c.known.copy && is_listed copies device c) copies) in
      rises_left (λ (row : StatusRow). row.copy) 0 (take 100 whole) (drop 100 whole) (subst (AreRising (λ (row : StatusRow). row.copy) 0) (sym (take-append-drop 100 whole)) (rises_whole device from))

  -- a copy that is left out knows most
  pub left_out_knows : (device : Option (List ℕ)) (from : ℕ) (x : Copy) → In x copies → is_asked device x.place ≡ true → from ≤ x.known.copy → Reach x.known.copy (status_rows copies device from)
      → list_any (λ row. row.copy == x.known.copy) (status_rows copies device from) ≡ false → KnowsMost copies x
  unfolding status_rows is_listed status_row
  left_out_knows device from x i asked within reach out =
      let test : Copy → Bool = λ c. nat_le from c.known.copy && (is_asked device c.place && not (is_newest (state_among copies c))) in
      let whole = map (status_row copies) (filter test copies) in
      elim (cases_Bool (is_newest (state_among copies x))) [
        | inl e ↦ knows_most x i e
        | inr e ↦
            let passes : test x ≡ true = rw (le-leb from x.known.copy within, asked, e) refl in
            let listed = in_first (λ (row : StatusRow). row.copy) 100 whole (status_row copies x) (rises_whole device from) (in_map (status_row copies) (filter test copies) x (to_filter test copies x i passes)) reach in
            absurd (let odd : (x.known.copy == x.known.copy) ≡ false = none_from (λ (row : StatusRow). row.copy == x.known.copy) (take 100 whole) (status_row copies x) out listed in
            let even = eq-eqb x.known.copy x.known.copy refl in cc)
      ]

-- and are few
pub rows_few : (copies : List Copy) (device : Option (List ℕ)) (from : ℕ) → length (status_rows copies device from) ≤ 100
unfolding status_rows
rows_few copies device from = omega (arith, length-take 100 (map (status_row copies) (filter (λ c. nat_le from c.known.copy && is_listed copies device c) copies)))
