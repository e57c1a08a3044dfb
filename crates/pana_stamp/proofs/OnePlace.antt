-- Growing for the id of one place.
use Rattle.std.proofs.Common.{◌≡◌, ℕ, suc, ◌+◌, ◌/◌, ◌%◌, ◌^◌, ◌<◌, ◌≤◌, max, Bool, true, false, if◌then◌else◌, sym, ap, subst, arith}
use Rattle.pana_id.specs.Id.{Id, zero_id, one_id, pair, is_zero, depth}
use Rattle.pana_id.specs.Node.{single}
use Rattle.pana_id.proofs.Numbered.{left_single, right_single, is_zero-single, depth-single_at}
use Rattle.pana_event.specs.Event.{Event, leaf, fork, number}
use Rattle.pana_stamp.specs.declared.cost.Cost.{Cost}
use Rattle.pana_stamp.specs.Cost.{one_up}
use Rattle.pana_stamp.specs.Grow.{grow, cost_of, left_of, right_of, opened_by, goes_right}

grown_left : (i : Id) (e grown : Event) → is_zero i ≡ false → grown ≡ grow i (left_of e) → fork (number e) grown (right_of e) ≡ grow (pair i zero_id) e
grown_left zero_id e grown some is = absurd (cc)
grown_left one_id e grown some is = ap (λ g. fork (number e) g (right_of e)) is
grown_left (pair a b) e grown some is = ap (λ g. fork (number e) g (right_of e)) is

cost_left : (i : Id) (e : Event) (cost : Cost) → is_zero i ≡ false → cost ≡ cost_of i (left_of e) → one_up (opened_by e) cost ≡ cost_of (pair i zero_id) e
cost_left zero_id e cost some is = absurd (cc)
cost_left one_id e cost some is = ap (one_up (opened_by e)) is
cost_left (pair a b) e cost some is = ap (one_up (opened_by e)) is

pub left_grown : (n : ℕ) (e grown : Event) → n < 2 ^ 64 → n % 2 ≡ 0 → grown ≡ grow (single 64 (n / 2)) (left_of e) → fork (number e) grown (right_of e) ≡ grow (single 64 (suc n)) e
left_grown n e grown few even is =
    subst (λ i. fork (number e) grown (right_of e) ≡ grow i e) (sym (left_single n few even)) (grown_left (single 64 (n / 2)) e grown (is_zero-single 64 (n / 2)) is)

pub left_cost : (n : ℕ) (e : Event) (cost : Cost) → n < 2 ^ 64 → n % 2 ≡ 0 → cost ≡ cost_of (single 64 (n / 2)) (left_of e) → one_up (opened_by e) cost ≡ cost_of (single 64 (suc n)) e
left_cost n e cost few even is =
    subst (λ i. one_up (opened_by e) cost ≡ cost_of i e) (sym (left_single n few even)) (cost_left (single 64 (n / 2)) e cost (is_zero-single 64 (n / 2)) is)

pub right_grown : (n : ℕ) (e grown : Event) → n < 2 ^ 64 → (n % 2 ≡ 0 → ⊥) → grown ≡ grow (single 64 (n / 2)) (right_of e) → fork (number e) (left_of e) grown ≡ grow (single 64 (suc n)) e
right_grown n e grown few odd is =
    subst (λ i. fork (number e) (left_of e) grown ≡ grow i e) (sym (right_single n few odd)) (ap (λ g. fork (number e) (left_of e) g) is)

pub right_cost : (n : ℕ) (e : Event) (cost : Cost) → n < 2 ^ 64 → (n % 2 ≡ 0 → ⊥) → cost ≡ cost_of (single 64 (n / 2)) (right_of e) → one_up (opened_by e) cost ≡ cost_of (single 64 (suc n)) e
right_cost n e cost few odd is =
    subst (λ i. one_up (opened_by e) cost ≡ cost_of i e) (sym (right_single n few odd)) (ap (one_up (opened_by e)) is)

opened_by-le : (e : Event) → opened_by e ≤ 1
opened_by-le (leaf n) = omega arith
opened_by-le (fork n l r) = omega arith

bounded : (right : Bool) (o : ℕ) (a b : Cost) (m n : ℕ) → o ≤ 1 → a.opened ≤ m → a.levels ≤ m → b.opened ≤ n → b.levels ≤ n
    → ((one_up o (if right then b else a)).opened ≤ max m n + 1) × ((one_up o (if right then b else a)).levels ≤ max m n + 1)
bounded true o a b m n one h k h' k' = (omega (arith, one, h'), omega (arith, k'))
bounded false o a b m n one h k h' k' = (omega (arith, one, h), omega (arith, k))

-- a cost is no greater than the id is deep
cost_depth : (i : Id) (e : Event) → ((cost_of i e).opened ≤ depth i) × ((cost_of i e).levels ≤ depth i)
cost_depth zero_id e = (omega arith, omega arith)
cost_depth one_id e = (omega arith, omega arith)
cost_depth (pair i j) e =
    let left = cost_depth i (left_of e) in
    let right = cost_depth j (right_of e) in
    bounded (goes_right i j (cost_of i (left_of e)) (cost_of j (right_of e))) (opened_by e) (cost_of i (left_of e)) (cost_of j (right_of e)) (depth i) (depth j) (opened_by-le e) left.0 left.1 right.0 right.1

-- and so that at a place with a number is small
pub place_opened : (n : ℕ) (e : Event) (cost : Cost) → cost ≡ cost_of (single 64 n) e → cost.opened ≤ 64
place_opened n e cost is = omega (arith, ap (λ (c : Cost). c.opened) is, (cost_depth (single 64 n) e).0, depth-single_at 64 n)

pub place_levels : (n : ℕ) (e : Event) (cost : Cost) → cost ≡ cost_of (single 64 n) e → cost.levels ≤ 64
place_levels n e cost is = omega (arith, ap (λ (c : Cost). c.levels) is, (cost_depth (single 64 n) e).1, depth-single_at 64 n)
