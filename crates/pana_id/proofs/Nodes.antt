-- What the tests and the parts of a pair are where a half isn't 0.
use Rattle.std.proofs.Common.{◌≡◌, ℕ, suc, ◌-◌, true, false, ◌&&◌, ◌≤◌, nat_lt, IsTrue, refl, sym, ap, ap₂, subst, ◌∙◌, arith}
use Rattle.std.proofs.lemmas.Bool.{both_ways}
use Rattle.pana_id.specs.Id.{Id, zero_id, one_id, pair, is_zero, is_one, is_single, are_disjoint, parts, norm}
use Rattle.pana_id.specs.Node.{tree}
use Rattle.pana_id.specs.declared.node.Node.{Node}
use Rattle.pana_id.specs.declared.node.Node.TheVariants.{Zero, One, Single, Pair'}
use Rattle.pana_id.proofs.Numbered.{is_zero-single, is_one-single}

pub some_node : (node : Node) → (node ≡ Zero → ⊥) → is_zero (tree node) ≡ false
some_node Zero some = absurd (some refl)
some_node One some = refl
some_node (Single number) some = is_zero-single 64 (suc number)
some_node (Pair' p l r) some = refl

pub disjoint_one : (j : Id) → is_zero j ≡ false → are_disjoint one_id j ≡ false
disjoint_one zero_id some = absurd (cc)
disjoint_one one_id some = refl
disjoint_one (pair a b) some = refl

pub one_disjoint : (i : Id) → is_zero i ≡ false → are_disjoint i one_id ≡ false
one_disjoint zero_id some = absurd (cc)
one_disjoint one_id some = refl
one_disjoint (pair a b) some = refl

pub disjoint_zero : (i : Id) → are_disjoint i zero_id ≡ true
disjoint_zero zero_id = refl
disjoint_zero one_id = refl
disjoint_zero (pair a b) = refl

pub single_left : (i : Id) (at : ℕ) → is_single (pair i zero_id) at ≡ (nat_lt 0 at && is_single i (at - 1))
single_left zero_id at = refl
single_left one_id at = refl
single_left (pair a b) at = refl

pub single_none : (l r : Id) (at : ℕ) → is_zero l ≡ false → is_zero r ≡ false → is_single (pair l r) at ≡ false
single_none zero_id r at some some' = absurd (cc)
single_none one_id zero_id at some some' = absurd (cc)
single_none one_id one_id at some some' = refl
single_none one_id (pair c d) at some some' = refl
single_none (pair a b) zero_id at some some' = absurd (cc)
single_none (pair a b) one_id at some some' = refl
single_none (pair a b) (pair c d) at some some' = refl

pub parts_left : (i : Id) → is_zero i ≡ false → parts (pair i zero_id) ≡ (pair (parts i).0 zero_id, pair (parts i).1 zero_id)
parts_left zero_id some = absurd (cc)
parts_left one_id some = refl
parts_left (pair a b) some = refl

pub parts_both : (l r : Id) → is_zero l ≡ false → is_zero r ≡ false → parts (pair l r) ≡ (pair l zero_id, pair zero_id r)
parts_both zero_id r some some' = absurd (cc)
parts_both one_id zero_id some some' = absurd (cc)
parts_both one_id one_id some some' = refl
parts_both one_id (pair c d) some some' = refl
parts_both (pair a b) zero_id some some' = absurd (cc)
parts_both (pair a b) one_id some some' = refl
parts_both (pair a b) (pair c d) some some' = refl

pub norm_else : (l r : Id) → (is_zero l && is_zero r) ≡ false → (is_one l && is_one r) ≡ false → norm l r ≡ pair l r
norm_else zero_id zero_id some open_pair = absurd (cc)
norm_else one_id one_id some open_pair = absurd (cc)
norm_else l r some open_pair = refl

-- the parts of a pair, from those of its half
pub parts_of_left : (i f s first second : Id) → is_zero i ≡ false → ◌≡◌ {A = Id × Id} (f, s) (parts i) → first ≡ pair f zero_id → second ≡ pair s zero_id
    → ◌≡◌ {A = Id × Id} (first, second) (parts (pair i zero_id))
parts_of_left i f s first second some two is is' =
    ap₂ (λ (a b : Id). (a, b)) (is ∙ ap (λ (p : Id × Id). pair p.0 zero_id) two) (is' ∙ ap (λ (p : Id × Id). pair p.1 zero_id) two) ∙ sym (parts_left i some)

pub parts_of_both : (l r first second : Id) → is_zero l ≡ false → is_zero r ≡ false → first ≡ pair l zero_id → second ≡ pair zero_id r
    → ◌≡◌ {A = Id × Id} (first, second) (parts (pair l r))
parts_of_both l r first second some some' is is' = ap₂ (λ (a b : Id). (a, b)) is is' ∙ sym (parts_both l r some some')

pub norm_zero : (l r : Id) → (is_zero l && is_zero r) ≡ true → zero_id ≡ norm l r
norm_zero zero_id zero_id none = refl
norm_zero zero_id one_id none = absurd (cc)
norm_zero zero_id (pair c d) none = absurd (cc)
norm_zero one_id r none = absurd (cc)
norm_zero (pair a b) r none = absurd (cc)

pub norm_one : (l r : Id) → (is_one l && is_one r) ≡ true → one_id ≡ norm l r
norm_one one_id one_id all = refl
norm_one one_id zero_id all = absurd (cc)
norm_one one_id (pair c d) all = absurd (cc)
norm_one zero_id r all = absurd (cc)
norm_one (pair a b) r all = absurd (cc)

-- in no choice there is no 1 below a pair
pub single_shallow : (i : Id) (at : ℕ) → at ≤ 0 → nat_lt 0 at ≡ is_single (pair i zero_id) at
single_shallow i at shallow =
    let none : at ≡ 0 = omega (arith, shallow) in subst (λ at. nat_lt 0 at ≡ is_single (pair i zero_id) at) (sym none) (at_none i)
  where
    at_none : (i : Id) → false ≡ is_single (pair i zero_id) 0
    at_none zero_id = refl
    at_none one_id = refl
    at_none (pair a b) = refl

-- an id that isn't 0 meets 1
pub one_meets : (i j : Id) → i ≡ one_id → is_zero j ≡ false → IsTrue (are_disjoint i j) → ⊥
one_meets i j all some apart =
    both_ways (are_disjoint one_id j) (disjoint_one j some) (subst (λ i. are_disjoint i j ≡ true) all apart)

pub other_node : (node : Node) → (node ≡ One → ⊥) → is_one (tree node) ≡ false
other_node Zero other = refl
other_node One other = absurd (other refl)
other_node (Single number) other = is_one-single number
other_node (Pair' p l r) other = refl
