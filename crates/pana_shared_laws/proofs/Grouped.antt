-- Groups of a writer's records, one behind another.
use Rattle.std.proofs.Common.{◌≡◌, ◌≢◌, ◌⊎◌, inl, inr, ◌<◌, ◌≤◌, ℕ, ◌+◌, true, false, List, [], ◌∷◌, ◌++◌, length, refl, sym, ap, subst, ◌∙◌, append_assoc, append-nil, length-append}
use native.Mathlib.Omega.{arith}
use Rattle.std.proofs.Math.Dec.{leb}
use Rattle.std.proofs.lemmas.Bool.Decides.{leb_tells}
use Rattle.std.specs.List.{AllByRecursion}
use Rattle.pana_shared.specs.declared.record.Record.{Record}
use Rattle.pana_shared.specs.Log.{IsAt, ours}
use Rattle.pana_shared.proofs.Grown.{ours_both}
use Rattle.pana_shared.proofs.Splits.{splits}
use Rattle.pana_shared_laws.specs.Groups.{AreGroups}

-- ---- lists

pub none_of_length : {X : Type 0} (xs : List X) → length xs ≡ 0 → xs ≡ []
none_of_length [] is = refl
none_of_length (x ∷ xs) is = absurd (omega (arith, is))

pub none_both : {X : Type 0} (xs ys : List X) → xs ++ ys ≡ [] → (xs ≡ []) × (ys ≡ [])
none_both [] ys is = (refl, is)
none_both (x ∷ xs) ys is = absurd (cc)

-- ---- the records of a writer

pub ours_own : (w : ℕ) (xs : List Record) → AllByRecursion (λ r. r.writer ≡ w) xs → ours w xs ≡ xs
ours_own w [] own = refl
ours_own w (r ∷ xs) (is, own) = let rest = ours_own w xs own in let k = is in grind (arith, k, rest)

pub none_in : (w : ℕ) (xs ys : List Record) → ours w (xs ++ ys) ≡ [] → (ours w xs ≡ []) × (ours w ys ≡ [])
none_in w xs ys none = none_both (ours w xs) (ours w ys) (sym (ours_both w xs ys) ∙ none)

-- ---- groups

module _ (w : ℕ) where
  -- records of others come before
  pub groups_behind : (from : ℕ) (front xs : List Record) (gs : List (ℕ × List Record)) → ours w front ≡ [] → AreGroups (from + length front) w xs gs → AreGroups from w (front ++ xs) gs
  groups_behind from front xs [] none groups = ours_both w front xs ∙ ap (λ (l : List Record). l ++ ours w xs) none ∙ groups
  groups_behind from front xs ((at, []) ∷ gs) none groups = groups_behind from front xs gs none groups
  groups_behind from front xs ((at, r ∷ rest) ∷ gs) none (before, after, whole, place, nothing, others) = (
    front ++ before,
    after,
    ap (λ (l : List Record). front ++ l) whole ∙ sym (append_assoc front before ((r ∷ rest) ++ after)),
    (let l = length-append front before in omega (arith, l, place)),
    ours_both w front before ∙ ap (λ (l : List Record). l ++ ours w before) none ∙ nothing,
    others,
  )

  -- groups, and others behind them
  pub groups_both : (from : ℕ) (xs ys : List Record) (gs hs : List (ℕ × List Record)) → AreGroups from w xs gs → AreGroups (from + length xs) w ys hs → AreGroups from w (xs ++ ys) (gs ++ hs)
  groups_both from xs ys [] hs first second = groups_behind from xs ys hs first second
  groups_both from xs ys ((at, []) ∷ gs) hs first second = groups_both from xs ys gs hs first second
  groups_both from xs ys ((at, r ∷ rest) ∷ gs) hs (before, after, whole, place, nothing, others) second =
      let l : length xs ≡ length (before ++ ((r ∷ rest) ++ after)) = ap length whole in
      let p : length (before ++ ((r ∷ rest) ++ after)) ≡ length before + length ((r ∷ rest) ++ after) = length-append before ((r ∷ rest) ++ after) in
      let q : length ((r ∷ rest) ++ after) ≡ length (r ∷ rest) + length after = length-append (r ∷ rest) after in
      let even : from + length xs ≡ (at + length (r ∷ rest)) + length after = omega (arith, l, p, q, place) in (
        before,
        after ++ ys,
        ap (λ (m : List Record). m ++ ys) whole ∙ append_assoc before ((r ∷ rest) ++ after) ys ∙ ap (λ (m : List Record). before ++ m) (append_assoc (r ∷ rest) after ys),
        place,
        nothing,
        groups_both (at + length (r ∷ rest)) after ys gs hs others (subst (λ (n : ℕ). AreGroups n w ys hs) even second),
      )

-- ---- what has come meanwhile

-- a group that stands behind what was there stands in what has come
pub stands_in : (old more records g : List Record) (at : ℕ) → records ≡ old ++ more → IsAt at g records → length old ≤ at → (m : List Record) × (after : List Record) × (more ≡ m ++ (g ++ after)) × (length old + length m ≡ at)
stands_in old more records g at is there late =
    let b = there.behind in
    let within : length old ≤ length there.before = omega (arith, late, b) in
    let parts = splits old there.before more (g ++ there.after) (sym is ∙ there.whole) within in
    let l : length there.before ≡ length (old ++ parts.0) = ap length parts.1 in
    let s = length-append old parts.0 in
    (parts.0, there.after, parts.2, omega (arith, l, s, b))

-- where all that has come of the writer is as long as a group, it is this group
counted : (w : ℕ) (m g after : List Record) → ours w g ≡ g → length (ours w (m ++ (g ++ after))) ≡ length g → (ours w m ≡ []) × (ours w after ≡ [])
counted w m g after own long =
    let all : ours w (m ++ (g ++ after)) ≡ ours w m ++ (g ++ ours w after) = ours_both w m (g ++ after) ∙ ap (λ (l : List Record). ours w m ++ l) (ours_both w g after ∙ ap (λ (l : List Record). l ++ ours w after) own) in
    let l : length (ours w (m ++ (g ++ after))) ≡ length (ours w m ++ (g ++ ours w after)) = ap length all in
    let p = length-append (ours w m) (g ++ ours w after) in
    let q = length-append g (ours w after) in
    (none_of_length (ours w m) (omega (arith, l, p, q, long)), none_of_length (ours w after) (omega (arith, l, p, q, long)))

-- one group has come
pub one_group : (w : ℕ) (old more records g : List Record) (at : ℕ) → records ≡ old ++ more → (g ≢ [] → IsAt at g records × (length old ≤ at)) → ours w g ≡ g → length (ours w more) ≡ length g → AreGroups (length old) w more ((at, g) ∷ [])
one_group w old more records [] at is there own long = none_of_length (ours w more) long
one_group w old more records (r ∷ rest) at is there own long =
    let stands = there (λ e. (let f : r ∷ rest ≡ [] = e in cc)) in
    let (m, after, parts, place) = stands_in old more records (r ∷ rest) at is stands.0 stands.1 in
    let none = counted w m (r ∷ rest) after own (subst (λ (l : List Record). length (ours w l) ≡ length (r ∷ rest)) parts long) in
    (m, after, parts, place, none.0, none.1)

-- two groups have come, the first before the second
pub two_groups : (w : ℕ) (old more records g h : List Record) (at next : ℕ) → records ≡ old ++ more → (g ≢ [] → IsAt at g records × (length old ≤ at)) → (h ≢ [] → IsAt next h records × (length old ≤ next)) → (g ≢ [] → h ≢ [] → at + length g ≤ next)
    → ours w more ≡ g ++ h → ours w g ≡ g → ours w h ≡ h → AreGroups (length old) w more ((at, g) ∷ (next, h) ∷ [])
two_groups w old more records [] h at next is first second order own own_g own_h = one_group w old more records h next is second own_h (ap length own)
two_groups w old more records (r ∷ rest) [] at next is first second order own own_g own_h = one_group w old more records (r ∷ rest) at is first own_g (ap length (own ∙ append-nil (r ∷ rest)))
two_groups w old more records (r ∷ rest) (s ∷ others) at next is first second order own own_g own_h =
    let some_g : r ∷ rest ≢ [] = λ e. (let f : r ∷ rest ≡ [] = e in cc) in
    let some_h : s ∷ others ≢ [] = λ e. (let f : s ∷ others ≡ [] = e in cc) in
    let stands = first some_g in
    let (m, after, parts, place) = stands_in old more records (r ∷ rest) at is stands.0 stands.1 in
    let done = old ++ (m ++ (r ∷ rest)) in
    let whole : records ≡ (old ++ (m ++ (r ∷ rest))) ++ after = is ∙ ap (λ (l : List Record). old ++ l) (parts ∙ sym (append_assoc m (r ∷ rest) after)) ∙ sym (append_assoc old (m ++ (r ∷ rest)) after) in
    let long : length (old ++ (m ++ (r ∷ rest))) ≡ at + length (r ∷ rest) = (let a = length-append old (m ++ (r ∷ rest)) in let b = length-append m (r ∷ rest) in omega (arith, a, b, place)) in
    let all : ours w more ≡ ours w m ++ ((r ∷ rest) ++ ours w after) = ap (ours w) parts ∙ ours_both w m ((r ∷ rest) ++ after) ∙ ap (λ (l : List Record). ours w m ++ l) (ours_both w (r ∷ rest) after ∙ ap (λ (l : List Record). l ++ ours w after) own_g) in
    let late : at + length (r ∷ rest) ≤ next = order some_g some_h in
    let (m2, after2, parts2, place2) = stands_in (old ++ (m ++ (r ∷ rest))) after records (s ∷ others) next whole (second some_h).0 (omega (arith, long, late)) in
    let behind : ours w after ≡ ours w m2 ++ ((s ∷ others) ++ ours w after2) = ap (ours w) parts2 ∙ ours_both w m2 ((s ∷ others) ++ after2) ∙ ap (λ (l : List Record). ours w m2 ++ l) (ours_both w (s ∷ others) after2 ∙ ap (λ (l : List Record). l ++ ours w after2) own_h) in
    let l1 : length (ours w more) ≡ length (ours w m ++ ((r ∷ rest) ++ ours w after)) = ap length all in
    let l2 = length-append (ours w m) ((r ∷ rest) ++ ours w after) in
    let l3 = length-append (r ∷ rest) (ours w after) in
    let l4 : length (ours w after) ≡ length (ours w m2 ++ ((s ∷ others) ++ ours w after2)) = ap length behind in
    let l5 = length-append (ours w m2) ((s ∷ others) ++ ours w after2) in
    let l6 = length-append (s ∷ others) (ours w after2) in
    let l7 : length (ours w more) ≡ length ((r ∷ rest) ++ (s ∷ others)) = ap length own in
    let l8 = length-append (r ∷ rest) (s ∷ others) in (
      m,
      after,
      parts,
      place,
      none_of_length (ours w m) (omega (arith, l1, l2, l3, l4, l5, l6, l7, l8)),
      (m2, after2, parts2, (omega (arith, long, place2)), none_of_length (ours w m2) (omega (arith, l1, l2, l3, l4, l5, l6, l7, l8)), none_of_length (ours w after2) (omega (arith, l1, l2, l3, l4, l5, l6, l7, l8))),
    )

-- a list of earlier turns has no record of this turn
pub no_turn : (turn : ℕ) (m : List Record) (r : Record) (rest : List Record) → AllByRecursion (λ x. x.turn < turn) (m ++ (r ∷ rest)) → r.turn < turn
no_turn turn [] r rest all = all.0
no_turn turn (x ∷ m) r rest all = no_turn turn m r rest all.1

-- a group of earlier turns that begins no later than one of this turn ends before it
pub apart : (turn : ℕ) (g : List Record) (r : Record) (rest records : List Record) (at next : ℕ) → AllByRecursion (λ x. x.turn < turn) g → r.turn ≡ turn → IsAt at g records → IsAt next (r ∷ rest) records → at ≤ next → at + length g ≤ next
apart turn g r rest records at next early is there later order = by_order (leb_tells (at + length g) next) where
  by_order : ((leb (at + length g) next ≡ true) × (at + length g ≤ next)) ⊎ ((leb (at + length g) next ≡ false) × (next < at + length g)) → at + length g ≤ next
  by_order (inl (_, fine)) = fine
  by_order (inr (_, over)) =
      let b = there.behind in
      let c = later.behind in
      let parts = splits there.before later.before (g ++ there.after) ((r ∷ rest) ++ later.after) (sym there.whole ∙ later.whole) (omega (arith, b, c, order)) in
      let l : length later.before ≡ length (there.before ++ parts.0) = ap length parts.1 in
      let s = length-append there.before parts.0 in
      let inner = splits parts.0 g ((r ∷ rest) ++ later.after) there.after (sym parts.2) (omega (arith, l, s, b, c, over)) in
      absurd (by_rest parts.0 inner.0 inner.1 inner.2 (let k : length g ≡ length (parts.0 ++ inner.0) = ap length inner.1 in let t = length-append parts.0 inner.0 in omega (arith, k, t, l, s, b, c, over)))
    where
      by_rest : (front m : List Record) → g ≡ front ++ m → (r ∷ rest) ++ later.after ≡ m ++ there.after → 0 < length m → ⊥
      by_rest front [] is_g goes_on some = omega (arith, some)
      by_rest front (x ∷ m) is_g goes_on some =
          let same : r ≡ x = cc in
          let less = no_turn turn front x m (subst (λ (l : List Record). AllByRecursion (λ y. y.turn < turn) l) is_g early) in
          let t : x.turn ≡ turn = ap (λ (y : Record). y.turn) (sym same) ∙ is in
          omega (arith, less, t)

-- ---- groups behind others

-- what becomes of groups by themselves becomes of them behind others
pub groups_tail : (w : ℕ) (fs gs hs : List (ℕ × List Record)) → ((from : ℕ) (xs : List Record) → AreGroups from w xs gs → AreGroups from w xs hs) → (from : ℕ) (xs : List Record) → AreGroups from w xs (fs ++ gs) → AreGroups from w xs (fs ++ hs)
groups_tail w [] gs hs become from xs groups = become from xs groups
groups_tail w ((p, []) ∷ fs) gs hs become from xs groups = groups_tail w fs gs hs become from xs groups
groups_tail w ((p, r ∷ rest) ∷ fs) gs hs become from xs (before, after, whole, place, nothing, others) = (before, after, whole, place, nothing, groups_tail w fs gs hs become (p + length (r ∷ rest)) after others)

-- an empty group stands nowhere
pub groups_skip : (w : ℕ) (fs : List (ℕ × List Record)) (from : ℕ) (xs : List Record) (at : ℕ) (gs : List (ℕ × List Record)) → AreGroups from w xs (fs ++ ((at, []) ∷ gs)) → AreGroups from w xs (fs ++ gs)
groups_skip w fs from xs at gs groups = groups_tail w fs ((at, []) ∷ gs) gs (λ n ys same. same) from xs groups

-- a group is two, the second right behind the first
pub groups_parts : (w at : ℕ) (g h : List Record) (gs : List (ℕ × List Record)) (from : ℕ) (xs : List Record) → AreGroups from w xs ((at, g ++ h) ∷ gs) → AreGroups from w xs ((at, g) ∷ (at + length g, h) ∷ gs)
groups_parts w at [] h gs from xs groups = subst (λ (n : ℕ). AreGroups from w xs ((n, h) ∷ gs)) (omega arith) groups
groups_parts w at (r ∷ rest) [] gs from xs groups = subst (λ (l : List Record). AreGroups from w xs ((at, l) ∷ gs)) (append-nil (r ∷ rest)) groups
groups_parts w at (r ∷ rest) (s ∷ others) gs from xs (before, after, whole, place, nothing, left) =
    let l : length ((r ∷ rest) ++ (s ∷ others)) ≡ length (r ∷ rest) + length (s ∷ others) = length-append (r ∷ rest) (s ∷ others) in (
      before,
      (s ∷ others) ++ after,
      whole ∙ ap (λ (m : List Record). before ++ m) (append_assoc (r ∷ rest) (s ∷ others) after),
      place,
      nothing,
      ([], after, refl, omega arith, refl, subst (λ (n : ℕ). AreGroups n w after gs) (omega (arith, l)) left),
    )
