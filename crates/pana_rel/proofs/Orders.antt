-- Rising copies with one more, and with one less.
use Rattle.std.proofs.Common.{◌≡◌, ℕ, zero, suc, ◌+◌, ◌<◌, ◌≤◌, List, [], ◌∷◌, ◌++◌, length, get_or, refl, ap, ap₂, sym, subst, ◌∙◌, inl, inr, arith, ◌⊎◌}
use Rattle.std.specs.Prelude.{nat_lt, filter, Contains}
use Rattle.std.specs.List.{insert, remove}
use Rattle.std.proofs.lemmas.Bool.{cases_eq, cases_lt, cases_order, eq-eqb, ne_eqb, lt-ltb, le-ltb}
use Rattle.std.proofs.lemmas.List.{get_or_past, get_or_default}
use Rattle.std.proofs.lemmas.List.Edits.{length-remove}
use Rattle.std.proofs.Common.{Result, Ok, Err}
use Rattle.std.specs.Ordering.{nat_cmp}
use Rattle.std.specs.Result.{IsErr}
use Rattle.std.specs.List.Sorted.{IsBinarySearchResult}
use Rattle.std.proofs.lemmas.List.Sorted.{searched}
use Rattle.pana_event.specs.declared.rel.Rel.{Rel}
use Rattle.pana_event.specs.declared.rel.Rel.TheVariants.{Equal}
use Rattle.pana_rel.specs.Pairs.{place_of, rel_at, with_copy, without}
use Rattle.pana_rel.specs.inner.Square.{IsGap, IsRising, up}
use Rattle.pana_rel.proofs.Places.{place_at, rising_rest, first_below, place_reads, up_other, up_remove, up_within}

all_below : (cs : List ℕ) (n : ℕ) → ((k : ℕ) → k < length cs → n < get_or cs k 0) → filter (λ c. nat_lt c n) cs ≡ []
all_below [] n above = refl
all_below (c ∷ cs) n above =
    let first = above zero (omega arith) in
    rw (le-ltb c n (omega (arith, first))) (all_below cs n (λ k h. above (suc k) (omega arith)))

all_above : (cs : List ℕ) (n : ℕ) → ((k : ℕ) → k < length cs → n < get_or cs k 0) → filter (λ c. nat_lt n c) cs ≡ cs
all_above [] n above = refl
all_above (c ∷ cs) n above =
    let first = above zero (omega arith) in
    rw (lt-ltb n c first) (ap (λ rest. c ∷ rest) (all_above cs n (λ k h. above (suc k) (omega arith))))

-- rising copies with one more are those with it put in at its gap
pub with_copy_is : (cs : List ℕ) (n at : ℕ) → IsGap cs n at → with_copy n cs ≡ insert cs at n
with_copy_is cs n zero gap =
    ap₂ (λ a b. a ++ n ∷ b) (all_below cs n (λ k h. gap.above k (omega arith) h)) (all_above cs n (λ k h. gap.above k (omega arith) h))
with_copy_is [] n (suc at) gap = absurd (omega (arith, gap.within))
with_copy_is (c ∷ cs) n (suc at) gap =
    let first : c < n = gap.below zero (omega arith) in
    let rest = with_copy_is cs n at (record {
      within = omega (arith, gap.within);
      below = λ k h. gap.below (suc k) (omega arith);
      above = λ k h l. gap.above (suc k) (omega arith) (omega arith);
    }) in
    rw (lt-ltb c n first, le-ltb n c (omega arith)) (ap (λ more. c ∷ more) rest)

none_there : (cs : List ℕ) (c : ℕ) → ((k : ℕ) → k < length cs → c < get_or cs k 0) → without c cs ≡ cs
none_there [] c above = refl
none_there (d ∷ cs) c above =
    let first : c < d = above zero (omega arith) in
    rw (ne_eqb d c (λ same. omega (arith, same, first))) (ap (λ rest. d ∷ rest) (none_there cs c (λ k h. above (suc k) (omega arith))))

-- rising copies without one are those with it taken out at its place
pub without_is : (cs : List ℕ) (k : ℕ) → IsRising cs → k < length cs → without (get_or cs k 0) cs ≡ remove cs k
without_is [] k rising h = absurd (omega arith)
without_is (c ∷ cs) zero rising h = rw (eq-eqb c c refl) (none_there cs c (λ k l. first_below c cs k rising l))
without_is (c ∷ cs) (suc k) rising h =
    let less = first_below c cs k rising (omega arith) in
    rw (ne_eqb c (get_or cs k 0) (λ same. omega (arith, same, less))) (ap (λ rest. c ∷ rest) (without_is cs k (rising_rest c cs rising) (omega arith)))

contains_rest : (c : ℕ) (cs : List ℕ) (a : ℕ) → ¬ (c ≡ a) → Contains (c ∷ cs) a → Contains cs a
contains_rest c cs a other (zero, h, e) = absurd (other e)
contains_rest c cs a other (suc k, h, e) = (k, omega (arith, h), e)

-- relations to the others, with Equal put in for the copy itself, are the relations to all
pub others_at : (cs : List ℕ) (rels : List Rel) (copy b : ℕ) → IsRising cs → Contains cs copy → length rels + 1 ≡ length cs → Contains cs b
    → rel_at (without copy cs) rels b ≡ rel_at cs (insert rels (place_of copy cs) Equal) b
others_at [] rels copy b rising here long there = absurd (omega (arith, here.1))
others_at (c ∷ cs) [] copy b rising here long there =
    elim (cases_eq c copy) [
      | inl same ↦ elim (cases_eq c b) [
        | inl one ↦ rw (eq-eqb c copy same, eq-eqb c b one) refl
        | inr two ↦ absurd (omega (arith, long, (contains_rest c cs b two there).1))
      ]
      | inr other ↦ absurd (omega (arith, long, (contains_rest c cs copy other here).1))
    ]
others_at (c ∷ cs) (r ∷ rs) copy b rising here long there =
    elim (cases_eq c copy) [
      | inl same ↦
          let rest : without copy cs ≡ cs = ap (λ d. without d cs) (sym same) ∙ none_there cs c (λ k l. first_below c cs k rising l) in
          elim (cases_eq c b) [
            | inl one ↦
                let past : length cs ≤ place_of b cs = (elim (cases_lt (place_of b cs) (length cs)) [
                  | inl less ↦
                      let found = place_reads b cs 0 less in
                      let more = first_below c cs (place_of b cs) rising less in
                      absurd (omega (arith, found, more, one))
                  | inr more ↦ more
                ]) in
                rw (eq-eqb c copy same, eq-eqb c b one, rest) (get_or_past (r ∷ rs) (place_of b cs) Equal (omega (arith, past, long)))
            | inr two ↦ rw (eq-eqb c copy same, ne_eqb c b two, rest) refl
          ]
      | inr other ↦ elim (cases_eq c b) [
        | inl one ↦ rw (ne_eqb c copy other, eq-eqb c b one) refl
        | inr two ↦
            let below = others_at cs rs copy b (rising_rest c cs rising) (contains_rest c cs copy other here) (omega (arith, long)) (contains_rest c cs b two there) in
            rw (ne_eqb c copy other, ne_eqb c b two) below
      ]
    ]

found_in : (cs : List ℕ) (at n a i : ℕ) → at ≤ length cs → i < length (insert cs at n) → get_or (insert cs at n) i a ≡ a → (n ≡ a) ⊎ Contains cs a
found_in cs zero n a zero h l e = inl e
found_in cs zero n a (suc i) h l e = inr (i, omega (arith, l), e)
found_in [] (suc at) n a i h l e = absurd (omega arith)
found_in (c ∷ cs) (suc at) n a zero h l e = inr (zero, omega arith, e)
found_in (c ∷ cs) (suc at) n a (suc i) h l e = elim (found_in cs at n a i (omega arith) (omega (arith, l)) e) [
  | inl own ↦ inl own
  | inr old ↦ inr (suc old.0, omega (arith, old.1), old.2)
]

pub contains_insert : (cs : List ℕ) (at n a : ℕ) → at ≤ length cs → Contains (insert cs at n) a → (n ≡ a) ⊎ Contains cs a
contains_insert cs at n a h here = found_in cs at n a here.0 h here.1 here.2

pub contains_remove : (cs : List ℕ) (k a : ℕ) → IsRising cs → k < length cs → Contains (remove cs k) a → Contains cs a × ¬ (get_or cs k 0 ≡ a)
contains_remove cs k a rising h here =
    let n = length (remove cs k) in
    let long : n + 1 ≡ length cs = length-remove cs k h in
    let within : up k here.0 < suc n = up_within k here.0 n here.1 in
    let inside : up k here.0 < length cs = omega (arith, within, long) in
    let found : get_or cs (up k here.0) a ≡ a = sym (up_remove cs k here.0 a) ∙ here.2 in
    let found_too : get_or cs (up k here.0) 0 ≡ a = get_or_default cs (up k here.0) 0 a inside ∙ found in (
      (up k here.0, inside, found),
      λ same. elim (cases_order (up k here.0) k) [
        | inl one ↦ up_other k here.0 one
        | inr apart ↦ elim apart [
          | inl less ↦ let under = rising (up k here.0) k less h in omega (arith, under, found_too, same)
          | inr more ↦ let over = rising k (up k here.0) more inside in omega (arith, over, found_too, same)
        ]
      ],
    )

rising_cons : (c : ℕ) (cs : List ℕ) → ((k : ℕ) → k < length cs → c < get_or cs k 0) → IsRising cs → IsRising (c ∷ cs)
rising_cons c cs first rest zero zero less h = absurd (omega arith)
rising_cons c cs first rest zero (suc j) less h = first j (omega arith)
rising_cons c cs first rest (suc i) zero less h = absurd (omega arith)
rising_cons c cs first rest (suc i) (suc j) less h = rest i j (omega arith) (omega arith)

above_insert : (cs : List ℕ) (n at c : ℕ) → c < n → ((k : ℕ) → k < length cs → c < get_or cs k 0) → at ≤ length cs → (k : ℕ) → k < length (insert cs at n) → c < get_or (insert cs at n) k 0
above_insert cs n zero c less all h zero l = less
above_insert cs n zero c less all h (suc k) l = all k (omega (arith, l))
above_insert [] n (suc at) c less all h k l = absurd (omega arith)
above_insert (d ∷ cs) n (suc at) c less all h zero l = all zero (omega arith)
above_insert (d ∷ cs) n (suc at) c less all h (suc k) l = above_insert cs n at c less (λ i m. all (suc i) (omega arith)) (omega arith) k (omega (arith, l))

pub rising_insert : (cs : List ℕ) (n at : ℕ) → IsRising cs → IsGap cs n at → IsRising (insert cs at n)
rising_insert cs n zero rising gap = rising_cons n cs (λ k h. gap.above k (omega arith) h) rising
rising_insert [] n (suc at) rising gap = absurd (omega (arith, gap.within))
rising_insert (c ∷ cs) n (suc at) rising gap =
    let rest : IsGap cs n at = record {
      within = omega (arith, gap.within);
      below = λ k h. gap.below (suc k) (omega arith);
      above = λ k h l. gap.above (suc k) (omega arith) (omega arith);
    } in
    rising_cons c (insert cs at n)
    (above_insert cs n at c (gap.below zero (omega arith)) (λ k l. first_below c cs k rising l) (omega (arith, gap.within)))
    (rising_insert cs n at (rising_rest c cs rising) rest)

pub rising_remove : (cs : List ℕ) (k : ℕ) → IsRising cs → k < length cs → IsRising (remove cs k)
rising_remove [] k rising h = absurd (omega arith)
rising_remove (c ∷ cs) zero rising h = rising_rest c cs rising
rising_remove (c ∷ cs) (suc k) rising h =
    let long = length-remove cs k (omega arith) in
    rising_cons c (remove cs k)
    (λ i l. let within = up_within k i (length (remove cs k)) l in rw (up_remove cs k i 0) (first_below c cs (up k i) rising (omega (arith, within, long))))
    (rising_remove cs k (rising_rest c cs rising) (omega arith))

-- a search finds a copy that is there, and else the gap where it goes
pub searched_place : (cs : List ℕ) (a i : ℕ) → IsRising cs → i < length cs → get_or cs i 0 ≡ a → i ≡ place_of a cs
searched_place cs a i rising h same = sym (place_at cs i rising h) ∙ ap (λ b. place_of b cs) same

-- in rising copies a later one is no smaller
in_order : (cs : List ℕ) → IsRising cs → (i j : ℕ) → i ≤ j → j < length cs → get_or cs i 0 ≤ get_or cs j 0
in_order cs rising i j le h = elim (cases_eq i j) [
  | inl same ↦ let one : get_or cs i 0 ≡ get_or cs j 0 = ap (λ k. get_or cs k 0) same in omega (arith, one)
  | inr apart ↦ let less = rising i j (omega (arith, le, apart)) h in omega (arith, less)
]

-- in a gap's copies the copy isn't
gap_lacks : (cs : List ℕ) (a at k : ℕ) → IsGap cs a at → k < length cs → get_or cs k a ≡ a → ⊥
gap_lacks cs a at k gap h same =
    let read = get_or_default cs k a 0 h in
    elim (cases_lt k at) [
      | inl less ↦ let below = gap.below k less in omega (arith, below, read, same)
      | inr more ↦ let above = gap.above k more h in omega (arith, above, read, same)
    ]

pub search_finds : (cs : List ℕ) (a : ℕ) (r : Result ℕ ℕ) → IsRising cs → IsBinarySearchResult (λ y. nat_cmp y a) cs r → Contains cs a → r ≡ Ok (place_of a cs)
search_finds cs a (Ok i) rising by here =
    let hit = searched cs a (Ok i) by (in_order cs rising) in ap Ok (searched_place cs a i rising hit.0 hit.1)
search_finds cs a (Err i) rising by here =
    let miss = searched cs a (Err i) by (in_order cs rising) in
    absurd (gap_lacks cs a i here.0 (record { within = miss.0; below = miss.1; above = miss.2 }) here.1 here.2)

pub data Missed (cs : List ℕ) (a : ℕ) (r : Result ℕ ℕ) : Type 0 where
  missed : (at : ℕ) → r ≡ Err at → IsGap cs a at → Missed cs a r

pub search_misses : (cs : List ℕ) (a : ℕ) (r : Result ℕ ℕ) → IsRising cs → IsBinarySearchResult (λ y. nat_cmp y a) cs r → ¬ Contains cs a → Missed cs a r
search_misses cs a (Ok i) rising by gone =
    let hit = searched cs a (Ok i) by (in_order cs rising) in absurd (gone (i, hit.0, get_or_default cs i a 0 hit.0 ∙ hit.1))
search_misses cs a (Err i) rising by gone =
    let miss = searched cs a (Err i) by (in_order cs rising) in
    missed i refl (record { within = miss.0; below = miss.1; above = miss.2 })

-- the same of a slice of the items of a table's copies
pub finds_at : (slice items copies : List ℕ) (a : ℕ) (r : Result ℕ ℕ) → slice ≡ items → items ≡ copies → IsRising items
    → IsBinarySearchResult (λ y. nat_cmp y a) slice r → Contains copies a → r ≡ Ok (place_of a copies)
finds_at slice items copies a r e f rising by here =
    search_finds copies a r (subst IsRising f rising) (subst (λ xs. IsBinarySearchResult (λ y. nat_cmp y a) xs r) (e ∙ f) by) here

pub misses_at : (slice items copies : List ℕ) (a : ℕ) (r : Result ℕ ℕ) → slice ≡ items → items ≡ copies → IsRising items
    → IsBinarySearchResult (λ y. nat_cmp y a) slice r → ¬ Contains copies a → Missed copies a r
misses_at slice items copies a r e f rising by gone =
    search_misses copies a r (subst IsRising f rising) (subst (λ xs. IsBinarySearchResult (λ y. nat_cmp y a) xs r) (e ∙ f) by) gone

-- the place that a search returned
abbrev pub value_of : Result ℕ ℕ → ℕ
value_of (Ok i) = i
value_of (Err i) = i

pub is_missed : (cs : List ℕ) (a : ℕ) (r : Result ℕ ℕ) → Missed cs a r → IsErr r
is_missed cs a r (missed at is gap) = rw is refl

pub missed_gap : (cs : List ℕ) (a at : ℕ) (r : Result ℕ ℕ) → Missed cs a r → r ≡ Err at → IsGap cs a at
missed_gap cs a at r (missed at' is gap) same = subst (λ i. IsGap cs a i) (ap value_of (sym is ∙ same)) gap
