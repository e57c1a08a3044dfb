-- Counts, newest copies and splits, read off the rows.
use Rattle.std.proofs.Common.{◌≡◌, ℕ, zero, suc, Bool, true, false, ◌+◌, ◌<◌, List, [], ◌∷◌, length, get_or, refl, ap, ap₂, sym, subst, ◌∙◌, inl, inr, arith}
use Rattle.std.specs.Prelude.{◌==◌, ◌&&◌, ◌||◌, ◌↔◌, not, if◌then◌else◌, Contains, map, filter, count_by}
use Rattle.std.specs.List.{list_any}
use Rattle.std.proofs.lemmas.Bool.{cases_Bool, cases_eq, eq-eqb, ne_eqb, both_ways, not-true}
use Rattle.std.proofs.lemmas.List.Sums.{sum_by-cons}
use Rattle.std.proofs.lemmas.List.Folds.{list_any_at, Any-from_list_any}
use Rattle.std.proofs.lemmas.List.{ext_get_or, get_or-map, length-map, get_or_default}
use Rattle.pana_event.specs.declared.rel.Rel.{Rel}
use Rattle.pana_event.specs.declared.rel.Rel.TheVariants.{Equal, Older, Newer, Conflict}
use Rattle.pana_event.specs.Relation.{reverse_of}
use Rattle.pana_rel.specs.Board.{is_rel, is_split, newest_of, relates}
use Rattle.pana_rel.specs.Pairs.{own_number, place_of}
use Rattle.pana_rel.specs.inner.Square.{Relations, rel_in, row_in, IsKept, IsRising, IsTop, IsTorn}
use Rattle.pana_rel.proofs.Places.{first_below, place_at, place_reads, place_within, rising_rest}

-- what is in the rest is in the whole
pub contains_more : (x : ℕ) (xs : List ℕ) (a : ℕ) → Contains xs a → Contains (x ∷ xs) a
contains_more x xs a here = (suc here.0, omega (arith, here.1), here.2)

-- 1 for an item that passes
abbrev pub one_of : Bool → ℕ
one_of t = if t then 1 else 0

-- a count of the first and the rest
pub count_cons : {X : Type 0} (p : X → Bool) (x : X) (xs : List X) → count_by p (x ∷ xs) ≡ (one_of (p x)) + count_by p xs
count_cons p x xs = sum_by-cons (λ y. one_of (p y)) x xs

-- a copy in the whole is the first or in the rest
pub data Part (x : ℕ) (xs : List ℕ) (a : ℕ) : Type 0 where
  first : x ≡ a → Part x xs a
  later : Contains xs a → Part x xs a

part : (x : ℕ) (xs : List ℕ) (a : ℕ) → Contains (x ∷ xs) a → Part x xs a
part x xs a (zero, h, e) = first e
part x xs a (suc k, h, e) = later (k, omega (arith, h), e)

pub count_agree : (p q : ℕ → Bool) (xs : List ℕ) → ((a : ℕ) → Contains xs a → p a ≡ q a) → count_by p xs ≡ count_by q xs
count_agree p q [] same = refl
count_agree p q (x ∷ xs) same =
    let one : (one_of (p x)) ≡ (one_of (q x)) = ap (λ t. one_of t) (same x (zero, omega arith, refl)) in
    let rest = count_agree p q xs (λ a here. same a (contains_more x xs a here)) in
    omega (arith, count_cons p x xs, count_cons q x xs, one, rest)

pub any_agree : (p q : ℕ → Bool) (xs : List ℕ) → ((a : ℕ) → Contains xs a → p a ≡ q a) → list_any p xs ≡ list_any q xs
any_agree p q [] same = refl
any_agree p q (x ∷ xs) same =
    ap₂ (λ s t. s || t) (same x (zero, omega arith, refl)) (any_agree p q xs (λ a here. same a (contains_more x xs a here)))

pub count_map : (p : Rel → Bool) (f : ℕ → Rel) (xs : List ℕ) → count_by p (map f xs) ≡ count_by (λ a. p (f a)) xs
count_map p f [] = refl
count_map p f (x ∷ xs) =
    omega (arith, count_cons p (f x) (map f xs), count_cons (λ a. p (f a)) x xs, count_map p f xs)

-- a copy that passes a test, and the others that do
pub count_others : (p : ℕ → Bool) (xs : List ℕ) (a : ℕ) → IsRising xs → Contains xs a → p a ≡ true → count_by p xs ≡ count_by (λ x. not (x == a) && p x) xs + 1
count_others p [] a rising here passes = absurd (omega (arith, here.1))
count_others p (x ∷ xs) a rising here passes =
    let q : ℕ → Bool = λ y. not (y == a) && p y in
    elim (cases_eq x a) [
      | inl same ↦
          let one : (one_of (p x)) ≡ 1 = rw (ap p same ∙ passes) refl in
          let none : (one_of (q x)) ≡ 0 = rw (eq-eqb x a same) refl in
          let rest = count_agree p q xs (λ b there.
          let more = first_below x xs (place_of b xs) rising (place_within xs b there) in
          let reads = place_reads b xs 0 (place_within xs b there) in
          let apart : (b == a) ≡ false = ne_eqb b a (λ equal. omega (arith, more, reads, equal, same)) in
          sym (ap (λ t. not t && p b) apart)) in
          omega (arith, count_cons p x xs, count_cons q x xs, one, none, rest)
      | inr other ↦
          let alike : (one_of (p x)) ≡ (one_of (q x)) = rw (ne_eqb x a other) refl in
          elim (part x xs a here) [
            | first same ↦ absurd (other same)
            | later there ↦
                let rest = count_others p xs a (rising_rest x xs rising) there passes in
                omega (arith, count_cons p x xs, count_cons q x xs, alike, rest)
          ]
    ]

-- a list has an item that passes
pub any_at : (p : ℕ → Bool) (xs : List ℕ) (a : ℕ) → Contains xs a → p a ≡ true → list_any p xs ≡ true
any_at p xs a here passes = list_any_at p xs here.0 a here.1 (ap p here.2 ∙ passes)

pub record Found (p : ℕ → Bool) (xs : List ℕ) : Type 0 where
  pub item : ℕ
  pub here : Contains xs item
  pub passes : p item ≡ true

pub found : (p : ℕ → Bool) (xs : List ℕ) → list_any p xs ≡ true → Found p xs
found p xs some = let any = Any-from_list_any p xs some in record { item = any.1; here = (any.0, any.2, any.3); passes = any.4 }

pub contains_filter : (p : ℕ → Bool) (xs : List ℕ) (a : ℕ) → Contains xs a → p a ≡ true → Contains (filter p xs) a
contains_filter p [] a here passes = absurd (omega (arith, here.1))
contains_filter p (x ∷ xs) a here passes = elim (cases_Bool (p x)) [
  | inl good ↦ rw good (elim (part x xs a here) [
    | first same ↦ (zero, omega arith, same)
    | later there ↦ contains_more x (filter p xs) a (contains_filter p xs a there passes)
  ])
  | inr bad ↦ rw bad (elim (part x xs a here) [
    | first same ↦ absurd (both_ways (p x) bad (ap p same ∙ passes))
    | later there ↦ contains_filter p xs a there passes
  ])
]

pub filter_contains : (p : ℕ → Bool) (xs : List ℕ) (a : ℕ) → Contains (filter p xs) a → Contains xs a × (p a ≡ true)
filter_contains p [] a here = absurd (omega (arith, here.1))
filter_contains p (x ∷ xs) a here = elim (cases_Bool (p x)) [
  | inl good ↦
      let there : Contains (x ∷ filter p xs) a = subst (λ t. Contains (if t then x ∷ filter p xs else filter p xs) a) good here in
      elim (part x (filter p xs) a there) [
        | first same ↦ ((zero, omega arith, same), ap p (sym same) ∙ good)
        | later rest ↦ let below = filter_contains p xs a rest in (contains_more x xs a below.0, below.1)
      ]
  | inr bad ↦
      let there : Contains (filter p xs) a = subst (λ t. Contains (if t then x ∷ filter p xs else filter p xs) a) bad here in
      let below = filter_contains p xs a there in
      (contains_more x xs a below.0, below.1)
]

-- a copy's row has its relations to all copies in order
pub row_is : (cs : List ℕ) (rows : List Relations) (a : ℕ) → IsKept cs rows → Contains cs a → (row_in rows (place_of a cs)).items ≡ map (rel_in cs rows a) cs
row_is cs rows a kept here =
    let row = (row_in rows (place_of a cs)).items in
    let rel = rel_in cs rows a in
    let long : length row ≡ length cs = (kept.wide (place_of a cs) (omega (arith, kept.tall, place_within cs a here))) ∙ kept.tall in
    ext_get_or Equal row (map rel cs) (long ∙ sym (length-map cs rel)) (λ j less.
    let within : j < length cs = omega (arith, less, long) in
    sym (get_or-map rel cs j 0 Equal within ∙ ap (λ k. get_or row k Equal) (place_at cs j kept.rising within)))

-- the count of one kind in a copy's row
pub row_count : (cs : List ℕ) (rows : List Relations) (a : ℕ) (wanted : Rel) → IsKept cs rows → Contains cs a
    → count_by (λ rel. is_rel rel wanted) (row_in rows (place_of a cs)).items ≡ count_by (λ other. is_rel (rel_in cs rows a other) wanted) cs
row_count cs rows a wanted kept here =
    ap (λ row. count_by (λ rel. is_rel rel wanted) row) (row_is cs rows a kept here) ∙ count_map (λ rel. is_rel rel wanted) (rel_in cs rows a) cs

any_map : {X : Type 0} (p : X → Bool) (f : ℕ → X) (xs : List ℕ) → list_any p (map f xs) ≡ list_any (λ a. p (f a)) xs
any_map p f [] = refl
any_map p f (x ∷ xs) = ap (λ b. p (f x) || b) (any_map p f xs)

is_rel_reversed : (rel wanted : Rel) → is_rel (reverse_of rel) wanted ≡ is_rel rel (reverse_of wanted)
is_rel_reversed Equal Equal = refl
is_rel_reversed Equal Older = refl
is_rel_reversed Equal Newer = refl
is_rel_reversed Equal Conflict = refl
is_rel_reversed Older Equal = refl
is_rel_reversed Older Older = refl
is_rel_reversed Older Newer = refl
is_rel_reversed Older Conflict = refl
is_rel_reversed Newer Equal = refl
is_rel_reversed Newer Older = refl
is_rel_reversed Newer Newer = refl
is_rel_reversed Newer Conflict = refl
is_rel_reversed Conflict Equal = refl
is_rel_reversed Conflict Older = refl
is_rel_reversed Conflict Newer = refl
is_rel_reversed Conflict Conflict = refl

pub is_rel_same : (rel wanted : Rel) → is_rel rel wanted ≡ true → rel ≡ wanted
is_rel_same Equal Equal h = refl
is_rel_same Older Older h = refl
is_rel_same Newer Newer h = refl
is_rel_same Conflict Conflict h = refl
is_rel_same Equal Older h = absurd (cc)
is_rel_same Equal Newer h = absurd (cc)
is_rel_same Equal Conflict h = absurd (cc)
is_rel_same Older Equal h = absurd (cc)
is_rel_same Older Newer h = absurd (cc)
is_rel_same Older Conflict h = absurd (cc)
is_rel_same Newer Equal h = absurd (cc)
is_rel_same Newer Older h = absurd (cc)
is_rel_same Newer Conflict h = absurd (cc)
is_rel_same Conflict Equal h = absurd (cc)
is_rel_same Conflict Older h = absurd (cc)
is_rel_same Conflict Newer h = absurd (cc)

-- how the others relate to a copy, as its own relations say it
from_own : (cs : List ℕ) (rows : List Relations) (a other : ℕ) (wanted : Rel) → IsKept cs rows → Contains cs a → Contains cs other
    → is_rel (rel_in cs rows a other) (reverse_of wanted) ≡ is_rel (rel_in cs rows other a) wanted
from_own cs rows a other wanted kept here there =
    sym (ap (λ rel. is_rel rel wanted) (kept.mirrored a other here there) ∙ is_rel_reversed (rel_in cs rows a other) wanted)

-- how the others relate to it: of a kind that isn't Equal the copy itself is none
other_is : (cs : List ℕ) (rows : List Relations) (a other : ℕ) (wanted : Rel) → IsKept cs rows → Contains cs a → Contains cs other → is_rel Equal (reverse_of wanted) ≡ false
    → is_rel (rel_in cs rows a other) (reverse_of wanted) ≡ relates own_number (rel_in cs rows) wanted a other
other_is cs rows a other wanted kept here there uneven = elim (cases_eq other a) [
  | inl same ↦
      let own : rel_in cs rows a other ≡ Equal = ap (λ b. rel_in cs rows a b) same ∙ kept.itself a here in
      rw (eq-eqb other a same) (ap (λ r. is_rel r (reverse_of wanted)) own ∙ uneven)
  | inr apart ↦ rw (ne_eqb other a apart) (from_own cs rows a other wanted kept here there)
]

pub counted_others : (cs : List ℕ) (rows : List Relations) (a : ℕ) (wanted : Rel) → IsKept cs rows → Contains cs a → is_rel Equal (reverse_of wanted) ≡ false
    → count_by (λ rel. is_rel rel (reverse_of wanted)) (row_in rows (place_of a cs)).items ≡ count_by (relates own_number (rel_in cs rows) wanted a) cs
counted_others cs rows a wanted kept here uneven =
    row_count cs rows a (reverse_of wanted) kept here
    ∙ count_agree (λ other. is_rel (rel_in cs rows a other) (reverse_of wanted)) (relates own_number (rel_in cs rows) wanted a) cs (λ other there. other_is cs rows a other wanted kept here there uneven)

-- of those that are Equal the copy itself is one
pub counted_equal : (cs : List ℕ) (rows : List Relations) (a : ℕ) → IsKept cs rows → Contains cs a
    → count_by (λ rel. is_rel rel Equal) (row_in rows (place_of a cs)).items ≡ count_by (relates own_number (rel_in cs rows) Equal a) cs + 1
counted_equal cs rows a kept here =
    let rel = rel_in cs rows in
    let test : ℕ → Bool = λ other. is_rel (rel other a) Equal in
    row_count cs rows a Equal kept here
    ∙ count_agree (λ other. is_rel (rel a other) Equal) test cs (λ other there. from_own cs rows a other Equal kept here there)
    ∙ count_others test cs a kept.rising here (ap (λ r. is_rel r Equal) (kept.itself a here))

-- whether none is newer than a copy
abbrev pub none_newer : (ℕ → ℕ → Rel) → List ℕ → ℕ → Bool
none_newer rel cs copy = not (list_any (relates own_number rel Newer copy) cs)

pub obsolete_is : (cs : List ℕ) (rows : List Relations) (a : ℕ) → IsKept cs rows → Contains cs a
    → list_any (λ rel. is_rel rel Older) (row_in rows (place_of a cs)).items ≡ list_any (relates own_number (rel_in cs rows) Newer a) cs
obsolete_is cs rows a kept here =
    ap (list_any (λ rel. is_rel rel Older)) (row_is cs rows a kept here) ∙ any_map (λ rel. is_rel rel Older) (rel_in cs rows a) cs
    ∙ any_agree (λ other. is_rel (rel_in cs rows a other) Older) (relates own_number (rel_in cs rows) Newer a) cs (λ other there. other_is cs rows a other Newer kept here there refl)

pub top_is : (cs : List ℕ) (rows : List Relations) (a : ℕ) → IsKept cs rows → Contains cs a → IsTop (row_in rows (place_of a cs)).items ↔ (none_newer (rel_in cs rows) cs a ≡ true)
top_is cs rows a kept here =
    (λ top. ap not (sym (obsolete_is cs rows a kept here) ∙ top), λ test. obsolete_is cs rows a kept here ∙ not-true (list_any (relates own_number (rel_in cs rows) Newer a) cs) test)

-- the copy at a place
pub copy_at : (cs : List ℕ) (i : ℕ) → i < length cs → Contains cs (get_or cs i 0)
copy_at cs i h = (i, h, get_or_default cs i (get_or cs i 0) 0 h)

torn_splits : (cs : List ℕ) (rows : List Relations) → IsKept cs rows → IsTorn rows → is_split own_number (rel_in cs rows) cs ≡ true
torn_splits cs rows kept torn =
    let rel = rel_in cs rows in
    let i = torn.at in
    let j = torn.meets.other in
    let inside : i < length cs = omega (arith, torn.inside, kept.tall) in
    let within : j < length cs = omega (arith, torn.meets.within, kept.tall) in
    let a = get_or cs i 0 in
    let b = get_or cs j 0 in
    let here : Contains cs a = copy_at cs i inside in
    let there : Contains cs b = copy_at cs j within in
    let at : place_of a cs ≡ i = place_at cs i kept.rising inside in
    let at' : place_of b cs ≡ j = place_at cs j kept.rising within in
    let first : Contains (filter (none_newer rel cs) cs) a = contains_filter (none_newer rel cs) cs a here ((top_is cs rows a kept here).0 (subst (λ k. IsTop (row_in rows k).items) (sym at) torn.newest)) in
    let second : Contains (filter (none_newer rel cs) cs) b = contains_filter (none_newer rel cs) cs b there ((top_is cs rows b kept there).0 (subst (λ k. IsTop (row_in rows k).items) (sym at') torn.meets.top)) in
    let apart : rel a b ≡ Conflict =
    ap (λ k. get_or (row_in rows k).items (place_of b cs) Equal) at ∙ ap (λ k. get_or (row_in rows i).items k Equal) at' ∙ torn.meets.conflict in
    let test : relates own_number rel Conflict a b ≡ true = sym (other_is cs rows a b Conflict kept here there refl) ∙ ap (λ r. is_rel r Conflict) apart in
    let inner : list_any (relates own_number rel Conflict a) (newest_of own_number rel cs) ≡ true = any_at (relates own_number rel Conflict a) (newest_of own_number rel cs) b second test in
    any_at (λ copy. list_any (relates own_number rel Conflict copy) (newest_of own_number rel cs)) (newest_of own_number rel cs) a first inner

split_torn : (cs : List ℕ) (rows : List Relations) → IsKept cs rows → is_split own_number (rel_in cs rows) cs ≡ true → IsTorn rows
split_torn cs rows kept split =
    let rel = rel_in cs rows in
    let outer = found (λ copy. list_any (relates own_number rel Conflict copy) (newest_of own_number rel cs)) (newest_of own_number rel cs) split in
    let inner = found (relates own_number rel Conflict outer.item) (newest_of own_number rel cs) outer.passes in
    let first = filter_contains (none_newer rel cs) cs outer.item outer.here in
    let second = filter_contains (none_newer rel cs) cs inner.item inner.here in
    record {
      at = place_of outer.item cs;
      inside = omega (arith, kept.tall, place_within cs outer.item first.0);
      newest = (top_is cs rows outer.item kept first.0).1 first.1;
      meets = record {
        other = place_of inner.item cs;
        within = omega (arith, kept.tall, place_within cs inner.item second.0);
        top = (top_is cs rows inner.item kept second.0).1 second.1;
        conflict = is_rel_same (rel outer.item inner.item) Conflict (other_is cs rows outer.item inner.item Conflict kept first.0 second.0 refl ∙ inner.passes);
      };
    }

-- a table is split where two of its copies are torn apart: the test of the rows is the one of the pairs
pub split_is : (cs : List ℕ) (rows : List Relations) (test : Bool) → IsKept cs rows → (test ≡ true) ↔ IsTorn rows → test ≡ is_split own_number (rel_in cs rows) cs
split_is cs rows test kept says =
    elim (cases_Bool test) [
      | inl yes' ↦ yes' ∙ sym (torn_splits cs rows kept (says.0 yes'))
      | inr no' ↦ elim (cases_Bool (is_split own_number (rel_in cs rows) cs)) [
        | inl split ↦ absurd (both_ways test no' (says.1 (split_torn cs rows kept split)))
        | inr whole ↦ no' ∙ sym whole
      ]
    ]
