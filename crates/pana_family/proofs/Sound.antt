-- Stamps that stand for sets, for any relation between copies, stamps and sets.
use Rattle.pana_family.proofs.Words.{◌≡◌, ◌≢◌, ℕ, ◌≤◌, max, Bool, true, false, ◌&&◌, ◌||◌, ◌==◌, cond, ◌⊎◌, List, [], ◌∷◌, ◌++◌, length, refl, sym, ap, subst, ◌∙◌, inl, inr, arith, or_cases, or_parts}
use Rattle.pana_family.proofs.Words.{both_ways, nat_tests, Id, is_zero, SharesNoPoint, IsParted, IsSum, AtPoints, Event, level, IsBelow, IsRaised, Stamp, has, union, IsSubset, top, cases_lt, IsJoin}
use Rattle.pana_id.specs.Id.{has as owns}
use Rattle.pana_family.proofs.Unions.{union_members, missing}

-- a level at a point marks an update
pub record Marked (P : ℕ → Stamp → List ℕ → Type 0) (u : ℕ) : Type 0 where
  pub point : List Bool
  pub long : length point ≡ 256
  pub from : ℕ
  pub up : (c : ℕ) (s : Stamp) (xs : List ℕ) → P c s xs → has xs u ≡ true → from ≤ level s.event point
  pub down : (c : ℕ) (s : Stamp) (xs : List ℕ) → P c s xs → from ≤ level s.event point → has xs u ≡ true

-- the events are made of those of the updates
pub record Made (P : ℕ → Stamp → List ℕ → Type 0) : Type 0 where
  pub event_of : ℕ → Event
  pub levels : (c : ℕ) (s : Stamp) (xs : List ℕ) → P c s xs → AtPoints (λ point. level s.event point ≡ top event_of xs point)

-- what standing for sets says of a copy c with stamp s and set xs
pub record Sound (P : ℕ → Stamp → List ℕ → Type 0) : Type 0 where
  pub owning : (c : ℕ) (s : Stamp) (xs : List ℕ) → P c s xs → is_zero s.id ≡ false
  pub apart : (c : ℕ) (s : Stamp) (xs : List ℕ) → P c s xs → (d : ℕ) (q : Stamp) (ys : List ℕ) → P d q ys → c ≢ d → SharesNoPoint s.id q.id
  pub owner : (c : ℕ) (s : Stamp) (xs : List ℕ) → P c s xs → (d : ℕ) (q : Stamp) (ys : List ℕ) → P d q ys
      → (p : List Bool) → length p ≡ 256 → owns s.id p ≡ true → level q.event p ≤ level s.event p
  pub marked : (c : ℕ) (s : Stamp) (xs : List ℕ) → P c s xs → (u : ℕ) → has xs u ≡ true → Marked P u
  pub made : Made P

-- all but copy c
abbrev pub Others : (ℕ → Stamp → List ℕ → Type 0) → ℕ → ℕ → Stamp → List ℕ → Type 0
Others P c d s xs = P d s xs × (d ≢ c)

-- copy c has stamp x and a set of G, and all others are as before
abbrev pub Put : (ℕ → Stamp → List ℕ → Type 0) → ℕ → Stamp → (List ℕ → Type 0) → ℕ → Stamp → List ℕ → Type 0
Put P c x G d s xs = ((d ≡ c) × (s ≡ x) × G xs) ⊎ (P d s xs × (d ≢ c))

pub all_put : (P : ℕ → Stamp → List ℕ → Type 0) (c : ℕ) (x : Stamp) (G : List ℕ → Type 0) (Q : ℕ → Stamp → List ℕ → Type 0)
    → ((xs : List ℕ) → G xs → Q c x xs) → ((d : ℕ) (s : Stamp) (xs : List ℕ) → P d s xs → d ≢ c → Q d s xs)
    → (d : ℕ) (s : Stamp) (xs : List ℕ) → Put P c x G d s xs → Q d s xs
all_put P c x G Q here other d s xs h = grind (arith, nat_tests)

-- fewer rows
pub fewer : (P Q : ℕ → Stamp → List ℕ → Type 0) → ((d : ℕ) (s : Stamp) (xs : List ℕ) → Q d s xs → P d s xs) → Sound P → Sound Q
fewer P Q f sound = record {
  owning = λ c s xs h. sound.owning c s xs (f c s xs h);
  apart = grind (arith, nat_tests);
  owner = λ c s xs h d q ys k. sound.owner c s xs (f c s xs h) d q ys (f d q ys k);
  marked = λ c s xs h u m. let t = sound.marked c s xs (f c s xs h) u m in record {
    point = t.point;
    long = t.long;
    from = t.from;
    up = λ d q ys k. t.up d q ys (f d q ys k);
    down = λ d q ys k. t.down d q ys (f d q ys k);
  };
  made = grind (arith, nat_tests);
}

and_turn : (a b : Bool) → (a && b) ≡ false → (b && a) ≡ false
and_turn a b e = grind (arith, nat_tests)

pub turned : (i j : Id) → SharesNoPoint i j → SharesNoPoint j i
turned i j apart p long = and_turn (owns i p) (owns j p) (apart p long)

-- a point that one owns the other doesn't
pub not_both : (a b : Bool) → (a && b) ≡ false → b ≡ true → a ≡ false
not_both a b e h = grind (arith, nat_tests)

-- how a stamp has to lie among others, to be copy c's
pub record Fits (P : ℕ → Stamp → List ℕ → Type 0) (c : ℕ) (x : Stamp) : Type 0 where
  pub owning : is_zero x.id ≡ false
  pub apart : (d : ℕ) (q : Stamp) (ys : List ℕ) → P d q ys → d ≢ c → SharesNoPoint x.id q.id
  pub over : (d : ℕ) (q : Stamp) (ys : List ℕ) → P d q ys → d ≢ c → (p : List Bool) → length p ≡ 256 → owns x.id p ≡ true → level q.event p ≤ level x.event p
  pub under : (d : ℕ) (q : Stamp) (ys : List ℕ) → P d q ys → d ≢ c → (p : List Bool) → length p ≡ 256 → owns q.id p ≡ true → level x.event p ≤ level q.event p

pub put_sound : (P : ℕ → Stamp → List ℕ → Type 0) (c : ℕ) (x : Stamp) (G : List ℕ → Type 0) → Sound P → Fits P c x
    → ((d : ℕ) (s : Stamp) (xs : List ℕ) → Put P c x G d s xs → (u : ℕ) → has xs u ≡ true → Marked (Put P c x G) u) → Made (Put P c x G) → Sound (Put P c x G)
put_sound P c x G sound fits marked made = grind (arith, nat_tests)

-- a row that has the event and a set of a row that there was
pub knows_as : (P : ℕ → Stamp → List ℕ → Type 0) (c : ℕ) (x : Stamp) (G : List ℕ → Type 0) (b : ℕ) (r : Stamp) → x.event ≡ r.event → ((xs : List ℕ) → G xs → P b r xs)
    → Sound P → Fits P c x → Sound (Put P c x G)
knows_as P c x G b r same of sound fits =
    let remarked : (u : ℕ) → Marked P u → Marked (Put P c x G) u = λ u t. grind (arith, nat_tests) in
    grind (arith, nat_tests)

-- Two copies in place of one.

pub part_left : (w a b q : Bool) → w ≡ (a || b) → (w && q) ≡ false → (a && q) ≡ false
part_left w a b q e h = grind (arith, nat_tests)

or_second : (w a b : Bool) → w ≡ (a || b) → b ≡ true → w ≡ true
or_second w a b e h = grind (arith, nat_tests)

-- copy c keeps one part and copy n has the other, both with what c knew
pub share_keeps : (P : ℕ → Stamp → List ℕ → Type 0) (c n : ℕ) (r left right : Stamp) (xs0 : List ℕ) → Sound P → P c r xs0
    → IsParted r.id left.id right.id → left.event ≡ r.event → right.event ≡ r.event → Sound (Put (Put P c left (P c r)) n right (P c r))
share_keeps P c n r left right xs0 sound there parted same_left same_right =
    let whole : is_zero r.id ≡ false = sound.owning c r xs0 there in
    let first : Sound (Put P c left (P c r)) = knows_as P c left (P c r) c r same_left (λ xs g. g) sound record {
      owning = parted.first_owns whole;
      apart = λ d q ys h ne p long. part_left (owns r.id p) (owns left.id p) (owns right.id p) (owns q.id p) (parted.owned p long) (grind (arith, nat_tests));
      over = λ d q ys h ne p long o. subst (λ (e : Event). level q.event p ≤ level e p) (sym same_left)
          (grind (arith, nat_tests));
      under = λ d q ys h ne p long o. subst (λ (e : Event). level e p ≤ level q.event p) (sym same_left) (sound.owner d q ys h c r xs0 there p long o);
    } in
    knows_as (Put P c left (P c r)) n right (P c r) c left (same_right ∙ sym same_left) (λ xs g. inl (refl, refl, g)) first record {
      owning = parted.second_owns whole;
      apart = all_put P c left (P c r) (λ d q ys. d ≢ n → SharesNoPoint right.id q.id) (λ ys g ne. turned left.id right.id parted.once)
          (λ d q ys h ne other p long. grind (arith, nat_tests));
      over = all_put P c left (P c r) (λ d q ys. d ≢ n → (p : List Bool) → length p ≡ 256 → owns right.id p ≡ true → level q.event p ≤ level right.event p)
          (λ ys g ne p long o. grind (arith, nat_tests))
          (λ d q ys h ne other p long o. grind (arith, nat_tests));
      under = all_put P c left (P c r) (λ d q ys. d ≢ n → (p : List Bool) → length p ≡ 256 → owns q.id p ≡ true → level right.event p ≤ level q.event p)
          (λ ys g ne p long o. grind (arith, nat_tests))
          (λ d q ys h ne other p long o. grind (arith, nat_tests));
    }

-- The heir of a copy that is gone.

pub either_way : (a b : Bool) → (a ≡ true → b ≡ false) → (a && b) ≡ false
either_way a b f = grind (arith, nat_tests)

-- the same under other numbers
abbrev pub Renumbered : (ℕ → Stamp → List ℕ → Type 0) → (ℕ → ℕ) → ℕ → Stamp → List ℕ → Type 0
Renumbered P number d s xs = (k : ℕ) × P k s xs × (number k ≡ d)

-- An update.

-- the events, with that of update n
abbrev pub with_event : ℕ → Event → (ℕ → Event) → ℕ → Event
with_event n e event_of u = cond (u == n) e (event_of u)

top_other : (n : ℕ) (e : Event) (event_of : ℕ → Event) (p : List Bool) (xs : List ℕ) → has xs n ≡ false → top (with_event n e event_of) xs p ≡ top event_of xs p
top_other n e event_of p [] new = refl
top_other n e event_of p (x ∷ xs) new =
    let parts = or_parts (x == n) (has xs n) new in
    grind (arith, nat_tests, top_other n e event_of p xs parts.1)

-- the sets that c has after update n
abbrev pub Updated : (List ℕ → Type 0) → ℕ → List ℕ → Type 0
Updated G n ys = (xs : List ℕ) × G xs × (ys ≡ n ∷ xs)

pub edit_keeps : (P : ℕ → Stamp → List ℕ → Type 0) (c n : ℕ) (r x : Stamp) (xs0 : List ℕ) → Sound P → P c r xs0 → x.id ≡ r.id → IsRaised r.id r.event x.event
    → ((d : ℕ) (s : Stamp) (xs : List ℕ) → P d s xs → has xs n ≡ false) → Sound (Put P c x (Updated (P c r) n))
edit_keeps P c n r x xs0 sound there same raised new =
    let owned : (p : List Bool) → owns x.id p ≡ owns r.id p = λ p. ap (λ (i : Id). owns i p) same in
    let fits : Fits P c x = record {
      owning = ap is_zero same ∙ sound.owning c r xs0 there;
      apart = λ d q ys h ne. subst (λ (i : Id). SharesNoPoint i q.id) (sym same) (sound.apart c r xs0 there d q ys h (λ e. ne (sym e)));
      over = λ d q ys h ne p long o. omega (arith, sound.owner c r xs0 there d q ys h p long (sym (owned p) ∙ o), raised.kept p long);
      under = λ d q ys h ne p long o. omega (
        arith,
        sound.owner d q ys h c r xs0 there p long o,
        raised.others p long (not_both (owns r.id p) (owns q.id p) (grind (arith, nat_tests)) o),
      );
    } in
    let newly : Marked (Put P c x (Updated (P c r) n)) n = record {
      point = raised.point;
      long = raised.long;
      from = level x.event raised.point;
      up = all_put P c x (Updated (P c r) n) (λ d s xs. has xs n ≡ true → level x.event raised.point ≤ level s.event raised.point) (λ xs g m. omega arith)
          (λ d s xs h ne m. absurd (both_ways (has xs n) (new d s xs h) m));
      down = all_put P c x (Updated (P c r) n) (λ d s xs. level x.event raised.point ≤ level s.event raised.point → has xs n ≡ true)
          (λ ys g m. grind (arith, nat_tests))
          (λ d s xs h ne m. grind (arith, nat_tests));
    } in
    let remarked : (u : ℕ) → ((n == u) ≡ false) → (e : ℕ) (s : Stamp) (zs : List ℕ) → P e s zs → has zs u ≡ true → Marked (Put P c x (Updated (P c r) n)) u = λ u other e s zs k knows.
    let t : Marked P u = sound.marked e s zs k u knows in record {
      point = t.point;
      long = t.long;
      from = t.from;
      up = all_put P c x (Updated (P c r) n) (λ d s xs. has xs u ≡ true → t.from ≤ level s.event t.point)
          (grind (arith, nat_tests))
          (λ d s xs h ne. t.up d s xs h);
      down = all_put P c x (Updated (P c r) n) (λ d s xs. t.from ≤ level s.event t.point → has xs u ≡ true)
          (grind (arith, nat_tests))
          (λ d s xs h ne. t.down d s xs h);
    } in
    put_sound P c x (Updated (P c r) n) sound fits
    (grind (arith, nat_tests))
    record {
      event_of = with_event n x.event sound.made.event_of;
      levels = all_put P c x (Updated (P c r) n) (λ d s ys. AtPoints (λ p. level s.event p ≡ top (with_event n x.event sound.made.event_of) ys p))
          (grind (arith, nat_tests, top_other))
          (λ d s ys h ne p long. grind (arith, nat_tests, top_other));
    }

-- Two copies that learn all that either knows.

reaches : (v m n : ℕ) → v ≤ max m n → (v ≤ m) ⊎ (v ≤ n)
reaches v m n h = elim (cases_lt m v) [ inl lt ↦ inr (omega arith) | inr le ↦ inl le ]

or_more : (a b : Bool) → b ≡ true → (a || b) ≡ true
or_more a b e = grind (arith, nat_tests)

top_append : (event_of : ℕ → Event) (p : List Bool) (xs ys : List ℕ) → top event_of (xs ++ ys) p ≡ max (top event_of xs p) (top event_of ys p)
top_append event_of p [] ys = omega arith
top_append event_of p (x ∷ xs) ys = omega (arith, top_append event_of p xs ys)

top_knows : (event_of : ℕ → Event) (p : List Bool) (ys : List ℕ) (u : ℕ) → has ys u ≡ true → level (event_of u) p ≤ top event_of ys p
top_knows event_of p [] u m = absurd (cc)
top_knows event_of p (y ∷ ys) u m = elim (or_cases (y == u) (has ys u) m) [
  | inl e ↦ grind (arith, nat_tests)
  | inr h ↦ omega (arith, top_knows event_of p ys u h)
]

-- updates that another set has add nothing to it
top_missing : (event_of : ℕ → Event) (p : List Bool) (xs ys : List ℕ) → max (top event_of xs p) (top event_of (missing xs ys) p) ≡ max (top event_of xs p) (top event_of ys p)
top_missing event_of p xs [] = refl
top_missing event_of p xs (y ∷ ys) = grind (arith, nat_tests, top_missing event_of p xs ys, missing, top_knows)

-- the sets of two copies put together
abbrev pub United : (List ℕ → Type 0) → (List ℕ → Type 0) → List ℕ → Type 0
United G H zs = (xs : List ℕ) × (ys : List ℕ) × G xs × H ys × (zs ≡ union xs ys)

-- a becomes the sum and the join of a and b, and b is gone
pub join_keeps : (P : ℕ → Stamp → List ℕ → Type 0) (a b : ℕ) (r s x : Stamp) (xs0 ys0 : List ℕ) → Sound P → P a r xs0 → P b s ys0 → a ≢ b
    → IsSum x.id r.id s.id → IsJoin r.event s.event x.event → Sound (Put (Others P b) a x (United (P a r) (P b s)))
join_keeps P a b r s x xs0 ys0 sound first second differ summed joined =
    let G : List ℕ → Type 0 = United (P a r) (P b s) in
    let remarked : (u : ℕ) → Marked P u → Marked (Put (Others P b) a x G) u = λ u t. grind (arith, nat_tests, all_put, or_cases, union_members, reaches, or_more) in
    grind (arith, nat_tests, put_sound, all_put, or_cases, union_members, top_append, missing, top_missing)

-- Comparing.

top_within : (event_of : ℕ → Event) (p : List Bool) (m : ℕ) (xs : List ℕ) → ((u : ℕ) → has xs u ≡ true → level (event_of u) p ≤ m) → top event_of xs p ≤ m
top_within event_of p m [] all = omega arith
top_within event_of p m (x ∷ xs) all = grind (arith, nat_tests, top_within event_of p m xs (λ u h. all u (or_more (x == u) (has xs u) h)))

pub below_subset : (P : ℕ → Stamp → List ℕ → Type 0) (c d : ℕ) (r s : Stamp) (xs ys : List ℕ) → Sound P → P c r xs → P d s ys → IsBelow r.event s.event → IsSubset xs ys
below_subset P c d r s xs ys sound first second below u m =
    let t : Marked P u = sound.marked c r xs first u m in
    grind (arith, nat_tests)

pub subset_below : (P : ℕ → Stamp → List ℕ → Type 0) (c d : ℕ) (r s : Stamp) (xs ys : List ℕ) → Sound P → P c r xs → P d s ys → IsSubset xs ys → IsBelow r.event s.event
subset_below P c d r s xs ys sound first second within = record {
  levels = λ p long. omega (
    arith,
    sound.made.levels c r xs first p long,
    sound.made.levels d s ys second p long,
    top_within sound.made.event_of p (top sound.made.event_of ys p) xs (λ u m. top_knows sound.made.event_of p ys u (within u m)),
  );
}
