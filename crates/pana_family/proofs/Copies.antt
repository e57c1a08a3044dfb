-- The copies of a table of relations, and those of rows.
use Rattle.pana_family.proofs.Words.{◌≡◌, ◌≢◌, ◌↔◌, ℕ, ◌+◌, ◌<◌, ◌≤◌, true, ◌==◌, not, ◌⊎◌, List, [], ◌∷◌, length, map, filter, None, nat_lt, Contains, slice_index_or, refl, sym, subst, inl, inr}
use Rattle.pana_family.proofs.Words.{arith, suc, zero, eq-eqb, nat_tests, with_copy, without, contains_more, StampRow, has, In, IsRising, lives, copy_rows, cases_order, get_or_default}
use Rattle.pana_family.proofs.Words.{Contains-append_cases, Contains-append_left, Contains-append_right, any_at, contains_filter, filter_contains, found}
use Rattle.pana_family.proofs.{Places.free_from, Members.any_from, Members.any_some}

-- Numbers.

pub contains_has : (xs : List ℕ) (c : ℕ) → Contains xs c → has xs c ≡ true
contains_has xs c here = any_at (λ m. m == c) xs c here (eq-eqb c c refl)

pub has_contains : (xs : List ℕ) (c : ℕ) → has xs c ≡ true → Contains xs c
has_contains xs c some =
    let f = found (λ m. m == c) xs some in
    grind (arith, nat_tests)

pub first_or_later : (x : ℕ) (xs : List ℕ) (c : ℕ) → Contains (x ∷ xs) c → (c ≡ x) ⊎ Contains xs c
first_or_later x xs c here = grind (arith, nat_tests)

pub in_with_copy : (n c : ℕ) (cs : List ℕ) → Contains (with_copy n cs) c → (c ≡ n) ⊎ Contains cs c
in_with_copy n c cs here = elim (Contains-append_cases (filter (λ other. nat_lt other n) cs) (n ∷ filter (λ other. nat_lt n other) cs) c here) [
  | inl less ↦ inr (filter_contains (λ other. nat_lt other n) cs c less).0
  | inr rest ↦ elim (first_or_later n (filter (λ other. nat_lt n other) cs) c rest) [
    | inl e ↦ inl e
    | inr more ↦ inr (filter_contains (λ other. nat_lt n other) cs c more).0
  ]
]

pub with_copy_new : (n : ℕ) (cs : List ℕ) → Contains (with_copy n cs) n
with_copy_new n cs = Contains-append_right (filter (λ other. nat_lt other n) cs) (n ∷ filter (λ other. nat_lt n other) cs) n (zero, omega arith, refl)

pub with_copy_old : (n c : ℕ) (cs : List ℕ) → Contains cs c → Contains (with_copy n cs) c
with_copy_old n c cs here = elim (cases_order c n) [
  | inl e ↦ subst (Contains (with_copy n cs)) (sym e) (with_copy_new n cs)
  | inr o ↦ elim o [
    | inl less ↦ Contains-append_left (filter (λ other. nat_lt other n) cs) (n ∷ filter (λ other. nat_lt n other) cs) c (grind (arith, nat_tests, contains_filter))
    | inr more ↦ Contains-append_right (filter (λ other. nat_lt other n) cs) (n ∷ filter (λ other. nat_lt n other) cs) c
        (grind (arith, nat_tests, contains_more, contains_filter))
  ]
]

pub in_without_copy : (n c : ℕ) (cs : List ℕ) → Contains (without n cs) c → Contains cs c × (c ≢ n)
in_without_copy n c cs here =
    let f = filter_contains (λ other. not (other == n)) cs c here in
    grind (arith, nat_tests)

pub without_other : (n c : ℕ) (cs : List ℕ) → Contains cs c → c ≢ n → Contains (without n cs) c
without_other n c cs here ne = grind (arith, nat_tests, contains_filter)

-- Living copies.

pub lives_from : (rows : List StampRow) (r : StampRow) → In r rows → r.holder ≡ None → lives rows r.copy ≡ true
lives_from rows r i free = grind (arith, nat_tests, any_from)

-- a living copy has a row
pub living_at : (rows : List StampRow) (copy : ℕ) → lives rows copy ≡ true → (r : StampRow) × In r rows × (r.copy ≡ copy) × (r.holder ≡ None)
living_at rows copy here = grind (arith, nat_tests, any_some, free_from)

pub has_rows : (rows : List StampRow) (c : ℕ) → has (map (λ r. r.copy) (copy_rows rows)) c ≡ lives rows c
has_rows [] c = refl
has_rows (r ∷ rows) c = grind (arith, nat_tests, has_rows rows c)

-- Rising numbers.

-- the numbers rise, from one on
abbrev pub Rises : ℕ → List ℕ → Type 0
Rises low [] = Unit {0}
Rises low (c ∷ cs) = (low ≤ c) × Rises (c + 1) cs

rises_lower : (low least : ℕ) (cs : List ℕ) → least ≤ low → Rises low cs → Rises least cs
rises_lower low least [] le up = tt
rises_lower low least (c ∷ cs) le up = (omega (arith, up.0), up.1)

rises_rows : (low : ℕ) (rows : List StampRow) → IsRising low rows → Rises low (map (λ r. r.copy) (copy_rows rows))
rises_rows low [] up = tt
rises_rows low (r ∷ rows) up = grind (arith, nat_tests, rises_rows (r.copy + 1) rows up.1, rises_lower)

-- each number is greater than those before it, by their places
abbrev pub ByPlaces : List ℕ → Type 0
ByPlaces cs = (i j : ℕ) → i < j → j < length cs → slice_index_or cs i 0 < slice_index_or cs j 0

pub rises_places : (low : ℕ) (cs : List ℕ) → ByPlaces cs → ((c : ℕ) → Contains cs c → low ≤ c) → Rises low cs
rises_places low [] up least = tt
rises_places low (c ∷ cs) up least = (
  least c (zero, omega arith, refl),
  rises_places (c + 1) cs (λ i j less within. up (suc i) (suc j) (omega arith) (omega arith))
      (λ d here. let e = get_or_default cs here.0 d 0 here.1 in omega (arith, up zero (suc here.0) (omega arith) (omega (arith, here.1)), e, here.2)),
)

pub rises_above : (low : ℕ) (cs : List ℕ) (c : ℕ) → Rises low cs → Contains cs c → low ≤ c
rises_above low [] c up here = absurd (omega (arith, here.1))
rises_above low (x ∷ cs) c up here = elim (first_or_later x cs c here) [
  | inl e ↦ omega (arith, up.0, e)
  | inr later ↦ omega (arith, up.0, rises_above (x + 1) cs c up.1 later)
]

same_numbers : (low : ℕ) (xs ys : List ℕ) → Rises low xs → Rises low ys → ((c : ℕ) → Contains xs c → Contains ys c) → ((c : ℕ) → Contains ys c → Contains xs c) → xs ≡ ys
same_numbers low [] [] up top f g = refl
same_numbers low [] (y ∷ ys) up top f g = absurd (omega (arith, (g y (zero, omega arith, refl)).1))
same_numbers low (x ∷ xs) [] up top f g = absurd (omega (arith, (f x (zero, omega arith, refl)).1))
same_numbers low (x ∷ xs) (y ∷ ys) up top f g =
    let first : x ≡ y = elim (first_or_later y ys x (f x (zero, omega arith, refl))) [
      | inl e ↦ e
      | inr i ↦ elim (first_or_later x xs y (g y (zero, omega arith, refl))) [
        | inl e ↦ sym e
        | inr j ↦ absurd (omega (arith, rises_above (y + 1) ys x top.1 i, rises_above (x + 1) xs y up.1 j))
      ]
    ] in
    let rest : xs ≡ ys = same_numbers (x + 1) xs ys up.1 (subst (λ (k : ℕ). Rises (k + 1) ys) (sym first) top.1)
    (λ c i. elim (first_or_later y ys c (f c (contains_more x xs c i))) [
      | inl e ↦ absurd (omega (arith, rises_above (x + 1) xs c up.1 i, e, first))
      | inr j ↦ j
    ])
    (λ c i. elim (first_or_later x xs c (g c (contains_more y ys c i))) [
      | inl e ↦ absurd (omega (arith, rises_above (y + 1) ys c top.1 i, e, first))
      | inr j ↦ j
    ]) in
    grind (arith, nat_tests)

-- a table with the living copies has them in the order of the rows
pub copies_are : (rows : List StampRow) (cs : List ℕ) → IsRising 0 rows → ByPlaces cs → ((c : ℕ) → Contains cs c ↔ (lives rows c ≡ true)) → cs ≡ map (λ r. r.copy) (copy_rows rows)
copies_are rows cs up places same =
    same_numbers 0 cs (map (λ r. r.copy) (copy_rows rows)) (rises_places 0 cs places (λ c here. omega arith)) (rises_rows 0 rows up)
    (λ c here. grind (arith, nat_tests, has_contains, has_rows))
    (λ c here. (same c).1 (grind (arith, nat_tests, has_rows, contains_has)))
