-- Where an event grows for an id, at what cost, and what it is then.
use Rattle.std.specs.Prelude.{◌==◌, nat_lt, if◌then◌else◌, not, Option, Some, None}
use Rattle.std.proofs.Common.{◌≡◌, ℕ, ◌+◌, ◌-◌, ◌<◌, ◌≤◌, Bool, true, false, ◌&&◌, ◌||◌, List, [], ◌∷◌, length, arith, refl, sym, ap, ap₂, subst, ◌∙◌, inl, inr}
use Rattle.std.proofs.lemmas.Bool.{cases_Bool, or_from, le-ltb, ltb-false, or_parts, eqb-false, ne_eqb}
use Rattle.pana_id.specs.Id.{Id, zero_id, one_id, pair, is_zero, depth as id_depth, IsNormal as IsNormalId}
use Rattle.pana_id.proofs.Pairs.{is_zero-open}
use Rattle.pana_event.specs.Event.{Event, leaf, fork, number, level}
use Rattle.pana_stamp.specs.declared.cost.Cost.{Cost}
use Rattle.pana_stamp.specs.Cost.{CostsAtMost, CostsLess, is_cheaper, cost_at, one_up}
use Rattle.pana_stamp.specs.Grow.{left_of, right_of, opened_by, goes_right, cost_of, grow, in_one, grown_at, leads_to_one, is_right_of, one_at, IsGrowthPlace}
use Rattle.pana_stamp.proofs.Costs.{cost_with, less-cheaper, most-cheaper, most-less, most-most, less-most, up-most, up-less, down-less, cost-left, cost-right}
use Rattle.pana_stamp.proofs.Halves.{level-left_of, level-right_of}
use Rattle.pana_stamp.proofs.Ready.{Ready, ready-left_of, ready-right_of}

-- the way to the 1 that grows
abbrev pub place_of : Id → Event → List Bool
place_of zero_id e = []
place_of one_id e = []
place_of (pair i j) e =
    if goes_right i j (cost_of i (left_of e)) (cost_of j (right_of e)) then true ∷ place_of j (right_of e) else false ∷ place_of i (left_of e)

-- no 1 of the id costs less than c
pub record Bounds (i : Id) (e : Event) (c : Cost) : Type 0 where
  pub least : (path : List Bool) → leads_to_one i path ≡ true → CostsAtMost c (cost_at e path)
  pub none : (o l : ℕ) → CostsLess (cost_with o l) c → grown_at i e o l ≡ None

-- each 1 of the id costs more than c
pub record Over (i : Id) (e : Event) (c : Cost) : Type 0 where
  pub dear : (path : List Bool) → leads_to_one i path ≡ true → CostsLess c (cost_at e path)
  pub none : grown_at i e c.opened c.levels ≡ None

-- the event grows to g, at a place that is the last of those that cost least, which is c
pub record Growth (i : Id) (e g : Event) (c : Cost) (place : List Bool) : Type 0 where
  pub one : leads_to_one i place ≡ true
  pub costs : c ≡ cost_at e place
  pub bounds : Bounds i e c
  pub last : (path : List Bool) → leads_to_one i path ≡ true → is_right_of path place ≡ true → CostsLess c (cost_at e path)
  pub found : grown_at i e c.opened c.levels ≡ Some g
  pub levels : (point : List Bool) → id_depth i ≤ length point → level g point ≡ level e point + one_at place point

bounds-zero : (e : Event) (c : Cost) → Bounds zero_id e c
bounds-zero e c = record { least = λ path odd. absurd (cc); none = λ o l less. refl }

over-zero : (e : Event) (c : Cost) → Over zero_id e c
over-zero e c = record { dear = λ path odd. absurd (cc); none = refl }

zero-is_zero : (i : Id) → is_zero i ≡ true → zero_id ≡ i
zero-is_zero zero_id h = refl
zero-is_zero one_id h = absurd (cc)
zero-is_zero (pair l r) h = absurd (cc)

weaker : (i : Id) (e : Event) (c d : Cost) → CostsAtMost c d → Bounds i e d → Bounds i e c
weaker i e c d most b =
    record {
      least = λ path leads. most-most c d (cost_at e path) most (b.least path leads);
      none = λ o l less. b.none o l (less-most (cost_with o l) c d less most);
    }

over-bounds : (i : Id) (e : Event) (c d : Cost) → CostsLess c d → Bounds i e d → Over i e c
over-bounds i e c d less b =
    record {
      dear = λ path leads. less-most c d (cost_at e path) less (b.least path leads);
      none = b.none c.opened c.levels less;
    }

-- of a half that may be 0
half_bounds : (i : Id) (e : Event) (c d : Cost) → (is_zero i ≡ false → CostsAtMost c d) → (is_zero i ≡ false → Bounds i e d) → Bounds i e c
half_bounds i e c d most b =
    elim (cases_Bool (is_zero i)) [
      | inl none ↦ subst (λ (j : Id). Bounds j e c) (zero-is_zero i none) (bounds-zero e c)
      | inr some ↦ weaker i e c d (most some) (b some)
    ]

half_over : (i : Id) (e : Event) (c d : Cost) → (is_zero i ≡ false → CostsLess c d) → (is_zero i ≡ false → Bounds i e d) → Over i e c
half_over i e c d less b =
    elim (cases_Bool (is_zero i)) [
      | inl none ↦ subst (λ (j : Id). Over j e c) (zero-is_zero i none) (over-zero e c)
      | inr some ↦ over-bounds i e c d (less some) (b some)
    ]

least_pair : (i j : Id) (e : Event) (c : Cost) → Bounds i (left_of e) c → Bounds j (right_of e) c → (path : List Bool) → leads_to_one (pair i j) path ≡ true → CostsAtMost (one_up (opened_by e) c) (cost_at e path)
least_pair i j e c left right [] leads = absurd (cc)
least_pair i j e c left right (false ∷ path) leads =
    subst (λ (d : Cost). CostsAtMost (one_up (opened_by e) c) d) (sym (cost-left e path)) (up-most (opened_by e) c (cost_at (left_of e) path) (left.least path leads))
least_pair i j e c left right (true ∷ path) leads =
    subst (λ (d : Cost). CostsAtMost (one_up (opened_by e) c) d) (sym (cost-right e path)) (up-most (opened_by e) c (cost_at (right_of e) path) (right.least path leads))

none_if : (t : Bool) (n : ℕ) (l r : Event) (x y : Option Event) → (t ≡ false → x ≡ None) → (t ≡ false → y ≡ None) → (if t then None else in_one n l r x y) ≡ None
none_if true n l r x y first second = refl
none_if false n l r x y first second = ap₂ (in_one n l r) (first refl) (second refl)

found_if : (t : Bool) (n : ℕ) (l r g : Event) (x y : Option Event) → t ≡ false → in_one n l r x y ≡ Some g → (if t then None else in_one n l r x y) ≡ Some g
found_if true n l r g x y test found = absurd (cc)
found_if false n l r g x y test found = found

below_pair : (o l k : ℕ) (c : Cost) → (nat_lt o k || l == 0) ≡ false → CostsLess (cost_with o l) (one_up k c) → CostsLess (cost_with (o - k) (l - 1)) c
below_pair o l k c test less =
    let two = or_parts (nat_lt o k) (l == 0) test in
    let room : k ≤ o = ltb-false o k two.0 in
    let some : l ≡ 0 → ⊥ = eqb-false l 0 two.1 in
    let deep : 0 < l = omega arith in
    down-less o l k c room deep less

bounds_pair : (i j : Id) (e : Event) (c : Cost) → Bounds i (left_of e) c → Bounds j (right_of e) c → Bounds (pair i j) e (one_up (opened_by e) c)
bounds_pair i j e c left right =
    record {
      least = least_pair i j e c left right;
      none = λ o l less.
          let k = opened_by e in
          none_if (nat_lt o k || l == 0) (number e) (left_of e) (right_of e) (grown_at j (right_of e) (o - k) (l - 1)) (grown_at i (left_of e) (o - k) (l - 1))
          (λ test. right.none (o - k) (l - 1) (below_pair o l k c test less))
          (λ test. left.none (o - k) (l - 1) (below_pair o l k c test less));
    }

-- the test of a cost that is one step more
step_test : (o l k : ℕ) → (nat_lt (o + k) k || l + 1 == 0) ≡ false
step_test o l k =
    or_from (nat_lt (o + k) k) (l + 1 == 0) (le-ltb (o + k) k (omega arith)) (ne_eqb (l + 1) 0 (λ odd. omega arith))

back : (i : Id) (e : Event) (o l k : ℕ) (x : Option Event) → grown_at i e o l ≡ x → grown_at i e (o + k - k) (l + 1 - 1) ≡ x
back i e o l k x same =
    let first : o + k - k ≡ o = omega arith in
    let second : l + 1 - 1 ≡ l = omega arith in
    ap₂ (grown_at i e) first second ∙ same

last_right : (i j : Id) (e : Event) (c : Cost) (place : List Bool) → ((path : List Bool) → leads_to_one j path ≡ true → is_right_of path place ≡ true → CostsLess c (cost_at (right_of e) path)) → (path : List Bool) → leads_to_one (pair i j) path ≡ true → is_right_of path (true ∷ place) ≡ true → CostsLess (one_up (opened_by e) c) (cost_at e path)
last_right i j e c place last [] leads later = absurd (cc)
last_right i j e c place last (false ∷ path) leads later = absurd (cc)
last_right i j e c place last (true ∷ path) leads later =
    subst (λ (d : Cost). CostsLess (one_up (opened_by e) c) d) (sym (cost-right e path)) (up-less (opened_by e) c (cost_at (right_of e) path) (last path leads later))

last_left : (i j : Id) (e : Event) (c : Cost) (place : List Bool) → ((path : List Bool) → leads_to_one i path ≡ true → is_right_of path place ≡ true → CostsLess c (cost_at (left_of e) path)) → Over j (right_of e) c → (path : List Bool) → leads_to_one (pair i j) path ≡ true → is_right_of path (false ∷ place) ≡ true → CostsLess (one_up (opened_by e) c) (cost_at e path)
last_left i j e c place last over [] leads later = absurd (cc)
last_left i j e c place last over (false ∷ path) leads later =
    subst (λ (d : Cost). CostsLess (one_up (opened_by e) c) d) (sym (cost-left e path)) (up-less (opened_by e) c (cost_at (left_of e) path) (last path leads later))
last_left i j e c place last over (true ∷ path) leads later =
    subst (λ (d : Cost). CostsLess (one_up (opened_by e) c) d) (sym (cost-right e path)) (up-less (opened_by e) c (cost_at (right_of e) path) (over.dear path leads))

levels_right : (i j : Id) (e g : Event) (place : List Bool) → ((point : List Bool) → id_depth j ≤ length point → level g point ≡ level (right_of e) point + one_at place point) → (point : List Bool) → id_depth (pair i j) ≤ length point → level (fork (number e) (left_of e) g) point ≡ level e point + one_at (true ∷ place) point
levels_right i j e g place levels [] deep = absurd (omega arith)
levels_right i j e g place levels (false ∷ point) deep = omega (arith, level-left_of e point)
levels_right i j e g place levels (true ∷ point) deep = omega (arith, level-right_of e point, levels point (omega arith))

levels_left : (i j : Id) (e g : Event) (place : List Bool) → ((point : List Bool) → id_depth i ≤ length point → level g point ≡ level (left_of e) point + one_at place point) → (point : List Bool) → id_depth (pair i j) ≤ length point → level (fork (number e) g (right_of e)) point ≡ level e point + one_at (false ∷ place) point
levels_left i j e g place levels [] deep = absurd (omega arith)
levels_left i j e g place levels (false ∷ point) deep = omega (arith, level-left_of e point, levels point (omega arith))
levels_left i j e g place levels (true ∷ point) deep = omega (arith, level-right_of e point)

growth_right : (i j : Id) (e g : Event) (c : Cost) (place : List Bool) → Growth j (right_of e) g c place → Bounds i (left_of e) c → Growth (pair i j) e (fork (number e) (left_of e) g) (one_up (opened_by e) c) (true ∷ place)
growth_right i j e g c place half other =
    let k = opened_by e in
    let x = grown_at j (right_of e) (c.opened + k - k) (c.levels + 1 - 1) in
    let y = grown_at i (left_of e) (c.opened + k - k) (c.levels + 1 - 1) in
    let first : x ≡ Some g = back j (right_of e) c.opened c.levels k (Some g) half.found in
    record {
      one = half.one;
      costs = ap (one_up k) half.costs ∙ sym (cost-right e place);
      bounds = bounds_pair i j e c other half.bounds;
      last = last_right i j e c place half.last;
      found =
          found_if (nat_lt (c.opened + k) k || c.levels + 1 == 0) (number e) (left_of e) (right_of e) (fork (number e) (left_of e) g) x y (step_test c.opened c.levels k)
          (ap (λ (s : Option Event). in_one (number e) (left_of e) (right_of e) s y) first);
      levels = levels_right i j e g place half.levels;
    }

growth_left : (i j : Id) (e g : Event) (c : Cost) (place : List Bool) → Growth i (left_of e) g c place → Bounds j (right_of e) c → Over j (right_of e) c → Growth (pair i j) e (fork (number e) g (right_of e)) (one_up (opened_by e) c) (false ∷ place)
growth_left i j e g c place half other over =
    let k = opened_by e in
    let x = grown_at j (right_of e) (c.opened + k - k) (c.levels + 1 - 1) in
    let y = grown_at i (left_of e) (c.opened + k - k) (c.levels + 1 - 1) in
    let first : x ≡ None = back j (right_of e) c.opened c.levels k None over.none in
    let second : y ≡ Some g = back i (left_of e) c.opened c.levels k (Some g) half.found in
    record {
      one = half.one;
      costs = ap (one_up k) half.costs ∙ sym (cost-left e place);
      bounds = bounds_pair i j e c half.bounds other;
      last = last_left i j e c place half.last over;
      found =
          found_if (nat_lt (c.opened + k) k || c.levels + 1 == 0) (number e) (left_of e) (right_of e) (fork (number e) g (right_of e)) x y (step_test c.opened c.levels k)
          (ap₂ (in_one (number e) (left_of e) (right_of e)) first second);
      levels = levels_left i j e g place half.levels;
    }

right_of_nil : (path : List Bool) → is_right_of path [] ≡ false
right_of_nil [] = refl
right_of_nil (choice ∷ path) = refl

growth_one : (n : ℕ) → Growth one_id (leaf n) (leaf (n + 1)) (cost_with 0 0) []
growth_one n =
    record {
      one = refl;
      costs = refl;
      bounds = record {
        least = λ path leads. record { opens = omega arith; deep = λ same. omega arith };
        none = λ o l less. let z : o ≡ 0 = omega (arith, less.opens) in absurd (omega (arith, less.deep z));
      };
      last = λ path leads later. let odd = right_of_nil path in absurd (cc);
      found = refl;
      levels = λ point deep. refl;
    }

by_test : (i j : Id) (e g h : Event) (c d : Cost) (p q : List Bool) (t : Bool)
    → (t ≡ true → Growth (pair i j) e (fork (number e) (left_of e) h) (one_up (opened_by e) d) (true ∷ q))
    → (t ≡ false → Growth (pair i j) e (fork (number e) g (right_of e)) (one_up (opened_by e) c) (false ∷ p))
    → Growth (pair i j) e (if t then fork (number e) (left_of e) h else fork (number e) g (right_of e)) (one_up (opened_by e) (if t then d else c)) (if t then true ∷ q else false ∷ p)
by_test i j e g h c d p q true first second = first refl
by_test i j e g h c d p q false first second = second refl

pub right_facts : (u v w : Bool) → (u && v) ≡ false → (u || not (v || w)) ≡ true → (v ≡ false) × (u ≡ false → w ≡ false)
right_facts true true w both test = absurd (cc)
right_facts true false w both test = (refl, λ odd. absurd (cc))
right_facts false true w both test = absurd (cc)
right_facts false false true both test = absurd (cc)
right_facts false false false both test = (refl, λ _. refl)

pub left_facts : (u v w : Bool) → (u || not (v || w)) ≡ false → (u ≡ false) × (v ≡ false → w ≡ true)
left_facts true v w test = absurd (cc)
left_facts false true w test = (refl, λ odd. absurd (cc))
left_facts false false true test = (refl, λ _. refl)
left_facts false false false test = absurd (cc)

pub growth : (i : Id) (e : Event) → IsNormalId i → is_zero i ≡ false → Ready i e → Growth i e (grow i e) (cost_of i e) (place_of i e)
growth zero_id e normal some ready = absurd (cc)
growth one_id (leaf n) normal some ready = growth_one n
growth one_id (fork n l r) normal some ready = absurd ready
growth (pair i j) e normal some ready =
    let a = cost_of i (left_of e) in
    let b = cost_of j (right_of e) in
    let left : is_zero i ≡ false → Growth i (left_of e) (grow i (left_of e)) a (place_of i (left_of e)) =
    λ (h : is_zero i ≡ false). growth i (left_of e) normal.0 h (ready-left_of i j e ready) in
    let right : is_zero j ≡ false → Growth j (right_of e) (grow j (right_of e)) b (place_of j (right_of e)) =
    λ (h : is_zero j ≡ false). growth j (right_of e) normal.1 h (ready-right_of i j e ready) in
    by_test i j e (grow i (left_of e)) (grow j (right_of e)) a b (place_of i (left_of e)) (place_of j (right_of e)) (goes_right i j a b)
    (λ test.
    let facts = right_facts (is_zero i) (is_zero j) (is_cheaper a b) (is_zero-open i j normal.2) test in
    growth_right i j e (grow j (right_of e)) b (place_of j (right_of e)) (right facts.0)
    (half_bounds i (left_of e) b a (λ h. most-cheaper a b (facts.1 h)) (λ h. (left h).bounds)))
    (λ test.
    let facts = left_facts (is_zero i) (is_zero j) (is_cheaper a b) test in
    growth_left i j e (grow i (left_of e)) a (place_of i (left_of e)) (left facts.0)
    (half_bounds j (right_of e) a b (λ h. most-less a b (less-cheaper a b (facts.1 h))) (λ h. (right h).bounds))
    (half_over j (right_of e) a b (λ h. less-cheaper a b (facts.1 h)) (λ h. (right h).bounds)))

pub IsGrowthPlace-place_of : (i : Id) (e : Event) (g : Event) (c : Cost) (place : List Bool) → Growth i e g c place → IsGrowthPlace i e place
IsGrowthPlace-place_of i e g c place growth =
    record {
      one = growth.one;
      least = λ path leads. subst (λ (d : Cost). CostsAtMost d (cost_at e path)) growth.costs (growth.bounds.least path leads);
      last = λ path leads later. subst (λ (d : Cost). CostsLess d (cost_at e path)) growth.costs (growth.last path leads later);
    }
