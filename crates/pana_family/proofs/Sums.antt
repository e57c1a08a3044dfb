-- A copy that gets the ids of the rows that end.
use Rattle.pana_family.proofs.Words.{◌≡◌, ◌≢◌, ℕ, ◌≤◌, ◌<◌, ◌+◌, Bool, true, false, cond, ◌&&◌, ◌||◌, ◌⊎◌, List, [], ◌∷◌, ◌++◌, length, take, list_any, refl, sym, ap, subst, ◌∙◌, inl, inr, arith}
use Rattle.pana_family.proofs.Words.{get_or, suc, or_cases, and_parts, take_more, nat_tests, Id, is_zero, depth, sum_of, IsValid, AtPoints, SharesNoPoint, summed-sum, valid-sum, IsSound, IsBelow}
use Rattle.pana_family.proofs.Words.{is_leq, leq-is-below, below-is-leq, Stamp, StampRow, is_within, In, IsRising, deepest, stamp, with_ids, AreSound, depth-sum, is_zero-sum, AreApart}
use Rattle.pana_id.specs.Id.{has as owns}
use Rattle.pana_family.proofs.Sound.{Sound, Put, below_subset, either_way, fewer, knows_as, not_both, subset_below, turned}
use Rattle.pana_family.proofs.Relations.{within_subset, subset_within}
use Rattle.pana_family.proofs.Members.{above_low, any_some, from_both, in_right}

-- what an id is with those of the rows that pass
pub record AreSummed (test : StampRow → Bool) (i : Id) (rows : List StampRow) (j : Id) : Type 0 where
  pub valid : IsValid j
  pub points : AtPoints (λ p. owns j p ≡ (owns i p || list_any (λ r. test r && owns r.stamp.id p) rows))
  pub some : is_zero i ≡ false → is_zero j ≡ false
  pub shallow : (m : ℕ) → depth i ≤ m → deepest rows ≤ m → depth j ≤ m

or_group : (a b c : Bool) → ((a || b) || c) ≡ (a || (b || c))
or_group a b c = grind (arith, nat_tests)

pub with_summed : (test : StampRow → Bool) (i : Id) (rows : List StampRow) → IsValid i → AreSound rows → AreSummed test i rows (with_ids test i rows)
with_summed test i [] valid fine = grind (arith, nat_tests)
with_summed test i (r ∷ rows) valid fine =
    let mine : IsValid r.stamp.id = (fine r (inl refl)).0 in
    let rest : AreSound rows = λ q j. fine q (inr j) in
    let any : List Bool → Bool = λ p. list_any (λ q. test q && owns q.stamp.id p) rows in
    elim (test r) as (λ b. test r ≡ b → AreSummed test i (r ∷ rows) (with_ids test (cond b (sum_of i r.stamp.id) i) rows)) [
      | true ↦ λ w. let g = with_summed test (sum_of i r.stamp.id) rows (valid-sum i r.stamp.id valid mine) rest in record {
        valid = g.valid;
        points = λ p long. g.points p long ∙ ap (λ (b : Bool). b || any p) ((summed-sum i r.stamp.id valid mine).owned p long)
            ∙ or_group (owns i p) (owns r.stamp.id p) (any p) ∙ ap (λ (b : Bool). owns i p || ((b && owns r.stamp.id p) || any p)) (sym w);
        some = λ e. g.some (grind (arith, nat_tests, is_zero-sum));
        shallow = λ m least all. g.shallow m (omega (arith, depth-sum i r.stamp.id, least, all)) (omega (arith, all));
      }
      | false ↦ λ w. let g = with_summed test i rows valid rest in record {
        valid = g.valid;
        points = λ p long. g.points p long ∙ ap (λ (b : Bool). owns i p || ((b && owns r.stamp.id p) || any p)) (sym w);
        some = g.some;
        shallow = λ m least all. g.shallow m least (omega (arith, all));
      }
    ] refl

-- the numbers and stamps of the rows that end
abbrev pub Ending : List StampRow → (StampRow → ℕ) → (StampRow → Bool) → ℕ → Stamp → Type 0
Ending rows number ends e q = (z : StampRow) × In z rows × (ends z ≡ true) × (number z ≡ e) × (z.stamp ≡ q)

-- all but those that end
abbrev pub But : (ℕ → Stamp → List ℕ → Type 0) → (ℕ → Stamp → Type 0) → ℕ → Stamp → List ℕ → Type 0
But P E d s zs = P d s zs × ((q : Stamp) → E d q → ⊥)

-- copy h gets the ids of the rows that end
abbrev pub Gathered : (ℕ → Stamp → List ℕ → Type 0) → ℕ → Stamp → List StampRow → (StampRow → ℕ) → (StampRow → Bool) → ℕ → Stamp → List ℕ → Type 0
Gathered P h x rows number ends = Put (But P (Ending rows number ends)) h (stamp (with_ids ends x.id rows) x.event) (P h x)

-- a row that ends is another copy's, which the heir knows
pub record EndsAs (P : ℕ → Stamp → List ℕ → Type 0) (h : ℕ) (x : Stamp) (number : StampRow → ℕ) (z : StampRow) : Type 0 where
  pub other : number z ≢ h
  pub set : List ℕ
  pub there : P (number z) z.stamp set
  pub below : IsBelow z.stamp.event x.event

pub gathers : (P : ℕ → Stamp → List ℕ → Type 0) (h : ℕ) (x : Stamp) (xs : List ℕ) (rows : List StampRow) (number : StampRow → ℕ) (ends : StampRow → Bool) → AreSound rows → IsValid x.id → Sound P → P h x xs
    → ((z : StampRow) → In z rows → ends z ≡ true → EndsAs P h x number z) → Sound (Gathered P h x rows number ends)
gathers P h x xs rows number ends fine valid sound there ending =
    let Q : ℕ → Stamp → List ℕ → Type 0 = But P (Ending rows number ends) in
    let y : Stamp = stamp (with_ids ends x.id rows) x.event in
    let g = with_summed ends x.id rows valid fine in
    let split : (p : List Bool) → length p ≡ 256 → owns y.id p ≡ true → (owns x.id p ≡ true) ⊎ ((z : StampRow) × In z rows × (ends z ≡ true) × (owns z.stamp.id p ≡ true)) = λ p long o.
    grind (arith, nat_tests, any_some) in
    knows_as Q h y (P h x) h x refl (λ zs m. (m, λ q e. (ending e.0 e.1 e.2).other e.3)) (fewer P Q (λ d s zs m. m.0) sound) record {
      owning = g.some (sound.owning h x xs there);
      apart = λ d q zs k ne p long. either_way (owns y.id p) (owns q.id p) (λ o. elim (split p long o) [
        | inl mine ↦ not_both (owns q.id p) (owns x.id p) (grind (arith, nat_tests)) mine
        | inr its ↦ let (z, i, t, o') = its in let a = ending z i t in
            not_both (owns q.id p) (owns z.stamp.id p) (turned z.stamp.id q.id (sound.apart (number z) z.stamp a.set a.there d q zs k.0 (λ e. k.1 z.stamp (z, i, t, e, refl))) p long) o'
      ]);
      over = λ d q zs k ne p long o. elim (split p long o) [
        | inl mine ↦ sound.owner h x xs there d q zs k.0 p long mine
        | inr its ↦ grind (arith, nat_tests)
      ];
      under = λ d q zs k ne p long o. sound.owner d q zs k.0 h x xs there p long o;
    }

-- an event is below another exactly where its set is within the other's
pub within_is : (P : ℕ → Stamp → List ℕ → Type 0) (c d : ℕ) (r s : Stamp) (xs ys : List ℕ) → Sound P → P c r xs → P d s ys → IsSound r.event → IsSound s.event → is_leq r.event s.event ≡ is_within xs ys
within_is P c d r s xs ys sound first second fine fine' =
    from_both (is_leq r.event s.event) (is_within xs ys)
    (λ e. subset_within xs ys (below_subset P c d r s xs ys sound first second (leq-is-below r.event s.event fine.shallow fine'.shallow e)))
    (λ e. below-is-leq r.event s.event fine.shallow fine'.shallow fine'.normal (subset_below P c d r s xs ys sound first second (within_subset xs ys e)))

-- The ids of a copy and of the rows that end, one after another.

-- with one row more
pub with_more : (test : StampRow → Bool) (i : Id) (xs : List StampRow) (q : StampRow) → with_ids test i (xs ++ q ∷ []) ≡ cond (test q) (sum_of (with_ids test i xs) q.stamp.id) (with_ids test i xs)
with_more test i [] q = refl
with_more test i (x ∷ xs) q = with_more test (cond (test x) (sum_of i x.stamp.id) i) xs q

pub last_above : (low : ℕ) (xs : List StampRow) (q r : StampRow) → IsRising low (xs ++ q ∷ []) → In r xs → r.copy < q.copy
last_above low [] q r up i = absurd i
last_above low (x ∷ xs) q r up i = elim i [
  | inl e ↦ omega (arith, ap (λ (w : StampRow). w.copy) e, above_low (x.copy + 1) (xs ++ q ∷ []) q up.1 (in_right q xs (q ∷ []) (inl refl)))
  | inr j ↦ last_above (x.copy + 1) xs q r up.1 j
]

pub rising_take : (low n : ℕ) (rows : List StampRow) → IsRising low rows → IsRising low (take n rows)
rising_take low (suc n) (r ∷ rows) up = (up.0, rising_take (r.copy + 1) n rows up.1)
rising_take low n rows up = grind (arith, nat_tests)

in_take : (n : ℕ) (rows : List StampRow) (r : StampRow) → In r (take n rows) → In r rows
in_take (suc n) (q ∷ rows) r i = elim i [ inl e ↦ inl e | inr j ↦ inr (in_take n rows r j) ]
in_take n rows r i = grind (arith, nat_tests)

-- the id so far shares no point with that of the next row
pub gather_apart : (test : StampRow → Bool) (rows : List StampRow) (n : ℕ) (q : StampRow) (i : Id) → AreSound rows → IsValid i → IsRising 0 rows → AreApart rows
    → ((r : StampRow) → In r rows → test r ≡ true → SharesNoPoint i r.stamp.id) → In q rows → take (n + 1) rows ≡ take n rows ++ q ∷ [] → test q ≡ true → SharesNoPoint (with_ids test i (take n rows)) q.stamp.id
gather_apart test rows n q i fine valid up apart other l more over p long =
    let g = with_summed test i (take n rows) valid (λ r j. fine r (in_take n rows r j)) in
    either_way (owns (with_ids test i (take n rows)) p) (owns q.stamp.id p) (λ o. elim (or_cases (owns i p) (list_any (λ r. test r && owns r.stamp.id p) (take n rows)) (sym (g.points p long) ∙ o)) [
      | inl mine ↦ not_other (owns i p) (owns q.stamp.id p) (other q l over p long) mine
      | inr its ↦
          let m = any_some (λ r. test r && owns r.stamp.id p) (take n rows) its in
          let ne : m.0.copy ≢ q.copy = λ e. omega (arith, e, last_above 0 (take n rows) q m.0 (subst (IsRising 0) more (rising_take 0 (n + 1) rows up)) m.1) in
          not_other (owns m.0.stamp.id p) (owns q.stamp.id p) (apart m.0 q (in_take n rows m.0 m.1) l ne p long) (and_parts (test m.0) (owns m.0.stamp.id p) m.2).1
    ])
  where
    not_other : (a b : Bool) → (a && b) ≡ false → a ≡ true → b ≡ false
    not_other true b e h = e
    not_other false b e h = absurd (cc h)

pub seen_more : (rows : List StampRow) (n : ℕ) (q : StampRow) → n < length rows → q ≡ get_or rows n q → take (n + 1) rows ≡ take n rows ++ q ∷ []
seen_more rows n q within read = grind (arith, nat_tests, take_more)
