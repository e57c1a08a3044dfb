-- Members of lists, rows and tables side by side, and what copies hold.
use Rattle.pana_family.proofs.Words.{◌≡◌, ℕ, ◌≤◌, ◌+◌, Bool, true, false, ◌==◌, ◌||◌, cond, not, ◌⊎◌, List, [], ◌∷◌, ◌++◌, length, filter, Option, None, list_any, refl, sym, ap, ◌∙◌, inl, inr, arith}
use Rattle.pana_family.proofs.Words.{suc, or_cases, or_parts, or_right, eqb-true, nat_tests, Stamp, StampRow, has, union, is_held, Known, In, AreBelow, set_in, AreSame, StandsFor, IsRising, IsRowOf}
use Rattle.pana_family.proofs.{Sound.Marked, Sound.Sound, Unions.missing}

-- Members.

pub in_append : {A : Type 0} (x : A) (xs ys : List A) → In x (xs ++ ys) → In x xs ⊎ In x ys
in_append x [] ys i = inr i
in_append x (y ∷ xs) ys i = elim i [
  | inl e ↦ inl (inl e)
  | inr j ↦ elim (in_append x xs ys j) [ inl k ↦ inl (inr k) | inr k ↦ inr k ]
]

pub in_left : {A : Type 0} (x : A) (xs ys : List A) → In x xs → In x (xs ++ ys)
in_left x [] ys i = absurd i
in_left x (y ∷ xs) ys i = elim i [ inl e ↦ inl e | inr j ↦ inr (in_left x xs ys j) ]

pub in_right : {A : Type 0} (x : A) (xs ys : List A) → In x ys → In x (xs ++ ys)
in_right x [] ys i = i
in_right x (y ∷ xs) ys i = inr (in_right x xs ys i)

pub in_filter : {A : Type 0} (test : A → Bool) (xs : List A) (y : A) → In y (filter test xs) → In y xs × (test y ≡ true)
in_filter test [] y i = absurd i
in_filter test (x ∷ xs) y i =
    let later : In y (filter test xs) → In y (x ∷ xs) × (test y ≡ true) = λ j. let k = in_filter test xs y j in (inr k.0, k.1) in
    grind (arith, nat_tests)

pub to_filter : {A : Type 0} (test : A → Bool) (xs : List A) (y : A) → In y xs → test y ≡ true → In y (filter test xs)
to_filter test [] y i passes = absurd i
to_filter test (x ∷ xs) y i passes = elim i [
  | inl e ↦ rw (ap test (sym e) ∙ passes) (inl e)
  | inr j ↦ grind (arith, nat_tests, to_filter test xs y j passes)
]

pub any_from : {A : Type 0} (test : A → Bool) (xs : List A) (x : A) → In x xs → test x ≡ true → list_any test xs ≡ true
any_from test [] x i e = absurd i
any_from test (y ∷ xs) x i e = elim i [
  | inl is ↦ grind (arith, nat_tests)
  | inr j ↦ or_right (test y) (list_any test xs) (any_from test xs x j e)
]

pub any_some : {A : Type 0} (test : A → Bool) (xs : List A) → list_any test xs ≡ true → (x : A) × In x xs × (test x ≡ true)
any_some test [] e = absurd (cc)
any_some test (y ∷ xs) e = elim (or_cases (test y) (list_any test xs) e) [
  | inl h ↦ (y, inl refl, h)
  | inr h ↦ let m = any_some test xs h in (m.0, inr m.1, m.2)
]

pub from_both : (a b : Bool) → (a ≡ true → b ≡ true) → (b ≡ true → a ≡ true) → a ≡ b
from_both a b f g = grind (arith, nat_tests)

pub not_held : (c : ℕ) (o : Option ℕ) → o ≡ None → is_held c o ≡ false
not_held c o e = grind (arith, nat_tests)

-- the set that is found is one of the table's
pub found_in : (table : List Known) (t : Known) → In t table → (k : Known) × In k table × (k.copy ≡ t.copy) × (k.set ≡ set_in table t.copy)
found_in [] t i = absurd i
found_in (k ∷ table) t i =
    elim (k.copy == t.copy) as (λ b. (k.copy == t.copy) ≡ b → (m : Known) × In m (k ∷ table) × (m.copy ≡ t.copy) × (m.set ≡ cond b k.set (set_in table t.copy))) [
      | true ↦ λ w. (k, inl refl, eqb-true k.copy t.copy w, refl)
      | false ↦ λ w. elim i [
        | inl e ↦ grind (arith, nat_tests)
        | inr j ↦ let m = found_in table t j in (m.0, inr m.1, m.2, m.3)
      ]
    ] refl

-- Rows and tables side by side.

pub of_row : (rows : List StampRow) (table : List Known) → AreSame rows table → (r : StampRow) → In r rows → (t : Known) × In t table × (r.copy ≡ t.copy) × (r.touch ≡ t.touch) × (r.holder ≡ t.holder)
of_row (q ∷ rows) (t ∷ table) same r i = elim i [
  | inl e ↦ (t, inl refl, ap (λ (k : StampRow). k.copy) e ∙ same.0, ap (λ (k : StampRow). k.touch) e ∙ same.1, ap (λ (k : StampRow). k.holder) e ∙ same.2)
  | inr j ↦ let m = of_row rows table same.3 r j in (m.0, inr m.1, m.2, m.3, m.4)
]
of_row rows table same r i = grind (arith, nat_tests)

pub of_known : (rows : List StampRow) (table : List Known) → AreSame rows table → (t : Known) → In t table → (r : StampRow) × In r rows × (r.copy ≡ t.copy) × (r.touch ≡ t.touch) × (r.holder ≡ t.holder)
of_known (q ∷ rows) (k ∷ table) same t i = elim i [
  | inl e ↦ (q, inl refl, same.0 ∙ ap (λ (m : Known). m.copy) (sym e), same.1 ∙ ap (λ (m : Known). m.touch) (sym e), same.2 ∙ ap (λ (m : Known). m.holder) (sym e))
  | inr j ↦ let m = of_known rows table same.3 t j in (m.0, inr m.1, m.2, m.3, m.4)
]
of_known rows table same t i = grind (arith, nat_tests)

pub same_length : (rows : List StampRow) (table : List Known) → AreSame rows table → length table ≡ length rows
same_length (r ∷ rows) (t ∷ table) same = ap suc (same_length rows table same.3)
same_length rows table same = grind (arith, nat_tests)

pub same_append : (xs : List StampRow) (ts : List Known) (ys : List StampRow) (ss : List Known) → AreSame xs ts → AreSame ys ss → AreSame (xs ++ ys) (ts ++ ss)
same_append (x ∷ xs) (t ∷ ts) ys ss same also = (same.0, same.1, same.2, same_append xs ts ys ss same.3 also)
same_append xs ts ys ss same also = grind (arith, nat_tests)

-- Rising rows.

pub above_low : (low : ℕ) (rows : List StampRow) (y : StampRow) → IsRising low rows → In y rows → low ≤ y.copy
above_low low [] y up i = absurd i
above_low low (r ∷ rows) y up i = elim i [
  | inl e ↦ omega (arith, up.0, ap (λ (q : StampRow). q.copy) e)
  | inr j ↦ omega (arith, up.0, above_low (r.copy + 1) rows y up.1 j)
]

pub one_row : (low : ℕ) (rows : List StampRow) (y z : StampRow) → IsRising low rows → In y rows → In z rows → y.copy ≡ z.copy → y ≡ z
one_row low [] y z up i j e = absurd i
one_row low (r ∷ rows) y z up i j e = elim i [
  | inl a ↦ grind (arith, nat_tests, above_low)
  | inr a ↦ elim j [
    | inl b ↦ absurd (omega (arith, above_low (r.copy + 1) rows y up.1 a, e, ap (λ (q : StampRow). q.copy) b))
    | inr b ↦ one_row (r.copy + 1) rows y z up.1 a b e
  ]
]

-- Each number stands once in a table.

abbrev pub One : List Known → Type 0
One table = (t s : Known) → In t table → In s table → t.copy ≡ s.copy → t ≡ s

pub one_known : (low : ℕ) (rows : List StampRow) (table : List Known) → AreSame rows table → IsRising low rows → One table
one_known low (r ∷ rows) (k ∷ table) same up t s i j e =
    let later : (u : Known) → In u table → r.copy + 1 ≤ u.copy = λ u l. grind (arith, nat_tests, of_known, above_low) in
    elim i [
      | inl a ↦ grind (arith, nat_tests)
      | inr a ↦ elim j [
        | inl b ↦ absurd (omega (arith, later t a, e, ap (λ (w : Known). w.copy) b, same.0))
        | inr b ↦ one_known (r.copy + 1) rows table same.3 up.1 t s a b e
      ]
    ]
one_known low rows table same up t s i j e = grind (arith, nat_tests)

pub set_of : (table : List Known) (t : Known) → One table → In t table → set_in table t.copy ≡ t.set
set_of table t one i = let k = found_in table t i in sym k.3 ∙ ap (λ (w : Known). w.set) (one k.0 t k.1 i k.2)

-- a row and what is known of it are held alike
pub same_holder : (rows : List StampRow) (table : List Known) → AreSame rows table → IsRising 0 rows → (r : StampRow) (t : Known) → In r rows → In t table → r.copy ≡ t.copy → r.holder ≡ t.holder
same_holder rows table same up r t i j e = grind (arith, nat_tests, of_known, one_row)

-- What copies hold.

pub record Holds (rows : List StampRow) (table : List Known) (c : ℕ) (s : Stamp) (xs : List ℕ) : Type 0 where
  pub row : StampRow
  pub known : Known
  pub in_rows : In row rows
  pub in_table : In known table
  pub same : row.copy ≡ known.copy
  pub copy_is : row.copy ≡ c
  pub stamp_is : row.stamp ≡ s
  pub set_is : known.set ≡ xs

pub held : (rows : List StampRow) (table : List Known) (r : StampRow) (t : Known) → In r rows → In t table → r.copy ≡ t.copy → Holds rows table r.copy r.stamp t.set
held rows table r t i j e = grind (arith, nat_tests)

pub all_held : (rows : List StampRow) (table : List Known) (Q : ℕ → Stamp → List ℕ → Type 0)
    → ((r : StampRow) (t : Known) → In r rows → In t table → r.copy ≡ t.copy → Q r.copy r.stamp t.set)
    → (c : ℕ) (s : Stamp) (xs : List ℕ) → Holds rows table c s xs → Q c s xs
all_held rows table Q f c s xs h = grind (arith, nat_tests)

pub to_sound : (rows : List StampRow) (table : List Known) → StandsFor rows table → Sound (Holds rows table)
to_sound rows table st = grind (arith, nat_tests)

pub of_sound : (rows : List StampRow) (table : List Known) → AreSame rows table → Sound (Holds rows table) → StandsFor rows table
of_sound rows table same sound = record {
  same = same;
  owning = λ r i. let k = of_row rows table same r i in sound.owning r.copy r.stamp k.0.set (held rows table r k.0 i k.1 k.2);
  apart = grind (arith, nat_tests, of_row, held);
  owner = grind (arith, nat_tests, of_row, held);
  marked = λ t u j m. let k = of_known rows table same t j in
      let n : Marked (Holds rows table) u = sound.marked k.0.copy k.0.stamp t.set (held rows table k.0 t k.1 j k.2) u m in record {
        point = n.point;
        long = n.long;
        from = n.from;
        marks = λ r q i l e. (n.up r.copy r.stamp q.set (held rows table r q i l e), n.down r.copy r.stamp q.set (held rows table r q i l e));
      };
  made = record {
    event_of = sound.made.event_of;
    levels = λ r t i j e. sound.made.levels r.copy r.stamp t.set (held rows table r t i j e);
  };
}

-- a row's copy holds the set that is found for it
pub holds_found : (rows : List StampRow) (table : List Known) → AreSame rows table → (r : StampRow) → In r rows → Holds rows table r.copy r.stamp (set_in table r.copy)
holds_found rows table same r i = grind (arith, nat_tests, of_row, found_in, held)

pub holds_at : (rows : List StampRow) (table : List Known) (c : ℕ) (r : StampRow) → StandsFor rows table → IsRowOf rows c r → Holds rows table c r.stamp (set_in table c)
holds_at rows table c r st at = grind (arith, nat_tests, holds_found)

pub unknown_yet : (rows : List StampRow) (table : List Known) (n : ℕ) → AreBelow n table → (d : ℕ) (s : Stamp) (xs : List ℕ) → Holds rows table d s xs → has xs n ≡ false
unknown_yet rows table n below = grind (arith, nat_tests)

-- an update that the second set lacks goes to the head of both together
pub union_fresh : (n : ℕ) (xs ys : List ℕ) → has ys n ≡ false → union (n ∷ xs) ys ≡ n ∷ union xs ys
union_fresh n xs ys fresh = ap (λ l. n ∷ (xs ++ l)) (missing_fresh ys fresh)
  where
    missing_fresh : (ys : List ℕ) → has ys n ≡ false → missing (n ∷ xs) ys ≡ missing xs ys
    missing_fresh [] fresh = refl
    missing_fresh (y ∷ ys) fresh =
        let differ : (n == y) ≡ false = grind (arith, nat_tests) in
        let rest : missing (n ∷ xs) ys ≡ missing xs ys = missing_fresh ys (or_parts (y == n) (has ys n) fresh).1 in
        ap (λ (b : Bool). cond (not (b || has xs y)) (y ∷ missing (n ∷ xs) ys) (missing (n ∷ xs) ys)) differ
        ∙ ap (λ (l : List ℕ). cond (not (has xs y)) (y ∷ l) l) rest
