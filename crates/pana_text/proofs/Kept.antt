-- What the check keeps of a tree is what its definition says of the tree.
use Rattle.std.proofs.Common.{◌≡◌, ℕ, ◌+◌, ◌^◌, ◌<◌, ◌≤◌, min, max, Bool, true, false, cond, ◌&&◌, ◌||◌, not, Option, refl, sym, ap, ◌∙◌, arith, ◌⊎◌, inl, inr, Result, Ok, Err}
use Rattle.std.specs.Prelude.{◌==◌, ⊤}
use Rattle.std.proofs.lemmas.Bool.{cases_lt, eq-eqb, ne_eqb, eqb-true, eqb-false}
use Rattle.pana_id.specs.Id.{Id, zero_id, one_id, pair, IsNormal as IsNormalId, IsOpen as IsOpenId}
use Rattle.pana_event.specs.Event.{Event, leaf, fork, number, greatest, are_same_leaf, IsNormal}
use Rattle.pana_text.specs.declared.fault.TextFault.{TextFault}
use Rattle.pana_text.specs.declared.fault.TextFault.TheVariants.{Syntax, TooDeep, NotNormal, TooLarge, OutOfMemory}
use Rattle.pana_text.specs.declared.id.IdKind.{IdKind}
use Rattle.pana_text.specs.declared.event.EventKind.{EventKind}
use Rattle.pana_text.specs.inner.Limits.{fitted, sum_fitted, max_fitted, is_zero, id_kinds, event_kinds, levels_judged, judged_kinds}
use Rattle.pana_text.proofs.Digits.{fitted-at, fitted-past}
use Rattle.pana_text.proofs.Folds.{folded_id, folded}

pub split_and : (a b : Bool) → (a && b) ≡ true → (a ≡ true) × (b ≡ true)
split_and true true h = (refl, refl)
split_and true false h = absurd cc
split_and false b h = absurd cc

-- ---- ids

abbrev pub kind_of_id : Id → IdKind
kind_of_id i = folded_id id_kinds i

open_test : (l r : Id) → not ((kind_of_id l).is_zero && (kind_of_id r).is_zero) ≡ true → not ((kind_of_id l).is_one && (kind_of_id r).is_one) ≡ true → IsOpenId l r
open_test zero_id zero_id p q = absurd cc
open_test one_id one_id p q = absurd cc
open_test l r p q = tt

test_open : (l r : Id) → IsOpenId l r → (not ((kind_of_id l).is_zero && (kind_of_id r).is_zero) && not ((kind_of_id l).is_one && (kind_of_id r).is_one)) ≡ true
test_open zero_id zero_id h = absurd h
test_open one_id one_id h = absurd h
test_open l r h = refl

-- an id that passes the test is normal, and a normal one passes it
pub normal-id : (i : Id) → (kind_of_id i).is_normal ≡ true → IsNormalId i
normal-id zero_id h = tt
normal-id one_id h = tt
normal-id (pair l r) h =
    let k = kind_of_id l in
    let m = kind_of_id r in
    let outer = split_and ((k.is_normal && m.is_normal) && not (k.is_zero && m.is_zero)) (not (k.is_one && m.is_one)) h in
    let inner = split_and (k.is_normal && m.is_normal) (not (k.is_zero && m.is_zero)) outer.0 in
    let both = split_and k.is_normal m.is_normal inner.0 in
    (normal-id l both.0, normal-id r both.1, open_test l r inner.1 outer.1)

pub id-normal : (i : Id) → IsNormalId i → (kind_of_id i).is_normal ≡ true
id-normal zero_id h = refl
id-normal one_id h = refl
id-normal (pair l r) h = rw (id-normal l h.0, id-normal r h.1) (test_open l r h.2)

-- ---- events

abbrev pub kind_of : Event → EventKind
kind_of e = folded event_kinds e

not-zero : (n : ℕ) → 0 < n → (n == 0) ≡ false
not-zero n h = ne_eqb n 0 (λ e. omega arith)

is_zero-fitted : (n : ℕ) → is_zero (fitted n) ≡ (n == 0)
is_zero-fitted n =
    elim (cases_lt n (2 ^ 64)) [
      | inl lt ↦ rw (fitted-at n lt) refl
      | inr le ↦ rw (fitted-past n le) (sym (not-zero n (omega arith)))
    ]

max_fitted-fitted : (m n : ℕ) → max_fitted (fitted m) (fitted n) ≡ fitted (max m n)
max_fitted-fitted m n =
    elim (cases_lt m (2 ^ 64)) [
      | inl lt ↦ elim (cases_lt n (2 ^ 64)) [
        | inl also ↦ rw (fitted-at m lt, fitted-at n also, fitted-at (max m n) (omega arith)) refl
        | inr le ↦ rw (fitted-at m lt, fitted-past n le, fitted-past (max m n) (omega arith)) refl
      ]
      | inr le ↦ rw (fitted-past m le, fitted-past (max m n) (omega arith)) refl
    ]

sum_fitted-fitted : (m n : ℕ) → sum_fitted (fitted m) (fitted n) ≡ fitted (m + n)
sum_fitted-fitted m n =
    elim (cases_lt m (2 ^ 64)) [
      | inl lt ↦ elim (cases_lt n (2 ^ 64)) [
        | inl also ↦ rw (fitted-at m lt, fitted-at n also) refl
        | inr le ↦ rw (fitted-at m lt, fitted-past n le, fitted-past (m + n) (omega arith)) refl
      ]
      | inr le ↦ rw (fitted-past m le, fitted-past (m + n) (omega arith)) refl
    ]

pub greatest-fitted : (e : Event) → (kind_of e).greatest ≡ fitted (greatest e)
greatest-fitted (leaf n) = refl
greatest-fitted (fork n l r) =
    ap (λ (m : Option ℕ). sum_fitted (fitted n) (max_fitted m (kind_of r).greatest)) (greatest-fitted l)
    ∙ (ap (λ (m : Option ℕ). sum_fitted (fitted n) (max_fitted (fitted (greatest l)) m)) (greatest-fitted r)
    ∙ (ap (λ (m : Option ℕ). sum_fitted (fitted n) m) (max_fitted-fitted (greatest l) (greatest r)) ∙ sum_fitted-fitted n (max (greatest l) (greatest r))))

from_zero-number : (e : Event) → (kind_of e).from_zero ≡ (number e == 0)
from_zero-number (leaf n) = is_zero-fitted n
from_zero-number (fork n l r) = is_zero-fitted n

or_true : (b : Bool) → (b || true) ≡ true
or_true true = refl
or_true false = refl

or_cases : (a b : Bool) → (a || b) ≡ true → (a ≡ true) ⊎ (b ≡ true)
or_cases true b h = inl refl
or_cases false b h = inr h

not_both : (a b : Bool) → (a ≡ true → b ≡ true → ⊥) → not (a && b) ≡ true
not_both true true h = absurd (h refl refl)
not_both true false h = refl
not_both false b h = refl

one_from_zero : (m n : ℕ) → ((m == 0) || (n == 0)) ≡ true → min m n ≡ 0
one_from_zero m n h =
    elim (or_cases (m == 0) (n == 0) h) [
      | inl e ↦ omega (arith, eqb-true m 0 e)
      | inr e ↦ omega (arith, eqb-true n 0 e)
    ]

from_zero-one : (m n : ℕ) → min m n ≡ 0 → ((m == 0) || (n == 0)) ≡ true
from_zero-one m n h =
    elim (cases_lt 0 m) [
      | inl lt ↦ rw (eq-eqb n 0 (omega arith)) (or_true (m == 0))
      | inr le ↦ rw (eq-eqb m 0 (omega arith)) refl
    ]

zeros : (m n : ℕ) → m ≡ 0 → n ≡ 0 → not ((m == 0) && (n == 0)) ≡ false
zeros m n p q = rw (eq-eqb m 0 p, eq-eqb n 0 q) refl

false_true : (b : Bool) → b ≡ false → b ≡ true → ⊥
false_true true p q = absurd cc
false_true false p q = absurd cc

leaves-differ : (m n : ℕ) → min m n ≡ 0 → not ((m == 0) && (n == 0)) ≡ true → (m == n) ≡ false
leaves-differ m n h p = ne_eqb m n (λ e. false_true (not ((m == 0) && (n == 0))) (zeros m n (omega arith) (omega arith)) p)

differ-leaves : (m n : ℕ) → (m == n) ≡ false → not ((m == 0) && (n == 0)) ≡ true
differ-leaves m n h = not_both (m == 0) (n == 0) (λ p q. eqb-false m n h (eqb-true m 0 p ∙ sym (eqb-true n 0 q)))

differ_test : (l r : Event) → min (number l) (number r) ≡ 0 → not ((kind_of l).is_leaf_zero && (kind_of r).is_leaf_zero) ≡ true → are_same_leaf l r ≡ false
differ_test (leaf m) (leaf n) h p = leaves-differ m n h (rw (← is_zero-fitted m, ← is_zero-fitted n) p)
differ_test (leaf m) (fork n c d) h p = refl
differ_test (fork m a b) (leaf n) h p = refl
differ_test (fork m a b) (fork n c d) h p = refl

not-and-false : (b : Bool) → not (b && false) ≡ true
not-and-false true = refl
not-and-false false = refl

test_differ : (l r : Event) → are_same_leaf l r ≡ false → not ((kind_of l).is_leaf_zero && (kind_of r).is_leaf_zero) ≡ true
test_differ (leaf m) (leaf n) h = rw (is_zero-fitted m, is_zero-fitted n) (differ-leaves m n h)
test_differ (leaf m) (fork n c d) h = not-and-false (is_zero (fitted m))
test_differ l r h = refl

-- an event that passes the test is normal, and a normal one passes it
pub normal-event : (e : Event) → (kind_of e).is_normal ≡ true → IsNormal e
normal-event (leaf n) h = tt
normal-event (fork n l r) h =
    let k = kind_of l in
    let m = kind_of r in
    let outer = split_and ((k.is_normal && m.is_normal) && (k.from_zero || m.from_zero)) (not (k.is_leaf_zero && m.is_leaf_zero)) h in
    let inner = split_and (k.is_normal && m.is_normal) (k.from_zero || m.from_zero) outer.0 in
    let both = split_and k.is_normal m.is_normal inner.0 in
    let from_zero = one_from_zero (number l) (number r) (rw (← from_zero-number l, ← from_zero-number r) inner.1) in
    (record { from_zero = from_zero; differ = differ_test l r from_zero outer.1 }, normal-event l both.0, normal-event r both.1)

pub event-normal : (e : Event) → IsNormal e → (kind_of e).is_normal ≡ true
event-normal (leaf n) h = refl
event-normal (fork n l r) h =
    rw (event-normal l h.1, event-normal r h.2, from_zero-number l, from_zero-number r, from_zero-one (number l) (number r) h.0.from_zero) (test_differ l r h.0.differ)

-- ---- both

-- what the check says of two trees
abbrev pub judged : Id → Event → Result ⊤ TextFault
judged i e = judged_kinds (kind_of_id i, kind_of e)

-- what a judgement says of two trees
abbrev pub Judged : Id → Event → Result ⊤ TextFault → Type 0
Judged i e (Ok x) = IsNormalId i × IsNormal e × (greatest e < 2 ^ 64)
Judged i e (Err NotNormal) = IsNormalId i × IsNormal e → ⊥
Judged i e (Err TooLarge) = IsNormalId i × IsNormal e × (2 ^ 64 ≤ greatest e)
Judged i e (Err _) = ⊥

form_test : (i : Id) (e : Event) (t : Bool) → ((kind_of_id i).is_normal && (kind_of e).is_normal) ≡ t → Judged i e (cond t (levels_judged (kind_of e).greatest) (Err NotNormal))
form_test i e true h =
    let both = split_and (kind_of_id i).is_normal (kind_of e).is_normal h in
    elim (cases_lt (greatest e) (2 ^ 64)) [
      | inl less ↦ rw (greatest-fitted e, fitted-at (greatest e) less) (normal-id i both.0, normal-event e both.1, less)
      | inr more ↦ rw (greatest-fitted e, fitted-past (greatest e) more) (normal-id i both.0, normal-event e both.1, more)
    ]
form_test i e false h = λ n. let k : true ≡ false = rw (id-normal i n.0, event-normal e n.1) at h in absurd cc

pub judgement : (i : Id) (e : Event) → Judged i e (judged i e)
judgement i e = form_test i e ((kind_of_id i).is_normal && (kind_of e).is_normal) refl
