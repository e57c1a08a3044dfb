-- Joins that are one of the two events, lifted.
use Rattle.std.proofs.Common.{◌≡◌, ℕ, ◌+◌, ◌-◌, ◌≤◌, min, Bool, true, false, cond, ◌&&◌, Some, IfSome, arith, refl, ap, ap₂, subst, ◌∙◌, ne_eqb}
use Rattle.std.proofs.lemmas.Bool.{eqb-false, and_parts}
use Rattle.pana_event.specs.Event.{Event, leaf, fork, number, level, depth, lift, sink, are_same_leaf, norm, IsOpen, IsNormal}
use Rattle.pana_event.specs.Join.{raised, join_of}
use Rattle.pana_event.specs.inner.Joining.{IsOneOf, IsJoined, is_first, is_second, shared_by, whole_of}
use Rattle.pana_event.specs.declared.joining.Joined.{Joined}
use Rattle.pana_event.specs.declared.joining.Joined.TheVariants.{First, Second, Both, New}
use Rattle.pana_event.proofs.Levels.{lowest, least-normal}
use Rattle.pana_event.proofs.Joins.{level-raised}

differ-lift : (l r : Event) (m : ℕ) → are_same_leaf l r ≡ false → are_same_leaf (lift l m) (lift r m) ≡ false
differ-lift (leaf i) (leaf j) m differ = ne_eqb (i + m) (j + m) (λ same. eqb-false i j differ (omega arith))
differ-lift (leaf i) (fork j c d) m differ = refl
differ-lift (fork i a b) (leaf j) m differ = refl
differ-lift (fork i a b) (fork j c d) m differ = refl

number-lift : (e : Event) (m : ℕ) → number (lift e m) ≡ number e + m
number-lift (leaf n) m = refl
number-lift (fork n l r) m = refl

sink-lift : (e : Event) (m : ℕ) → sink (lift e m) m ≡ e
sink-lift (leaf n) m = ap leaf (omega arith)
sink-lift (fork n l r) m = ap (λ k. fork k l r) (omega arith)

-- two halves of a normal fork that are lifted alike give a fork over them
norm-lift : (k m : ℕ) (l r : Event) → IsOpen l r → norm k (lift l m) (lift r m) ≡ fork (k + m) l r
norm-lift k m l r halves =
    let common : min (number (lift l m)) (number (lift r m)) ≡ m = omega (arith, number-lift l m, number-lift r m, halves.from_zero) in
    ap (λ same. cond same (lift (lift l m) k) (fork (k + min (number (lift l m)) (number (lift r m))) (sink (lift l m) (min (number (lift l m)) (number (lift r m)))) (sink (lift r m) (min (number (lift l m)) (number (lift r m)))))) (differ-lift l r m halves.differ)
    ∙ ap (λ c. fork (k + c) (sink (lift l m) c) (sink (lift r m) c)) common
    ∙ ap₂ (fork (k + m)) (sink-lift l m) (sink-lift r m)

-- a normal event that a leaf doesn't raise is lifted
pub raised-lifts : (a b : ℕ) (e : Event) → IsNormal e → a ≤ b + number e → raised a b e ≡ lift e b
raised-lifts a b (leaf n) normal within = ap leaf (omega arith)
raised-lifts a b (fork n l r) normal within =
    let k = min a (b + n) in
    let above = b + n - k in
    ap₂ (norm k) (raised-lifts (a - k) above l normal.1 (omega arith)) (raised-lifts (a - k) above r normal.2 (omega arith))
    ∙ norm-lift k above l r normal.0
    ∙ ap (λ i. fork i l r) (omega arith)

pub ruleset raised_lifts = (raised-lifts)

-- where a leaf raises a normal event to a leaf, it is that one
pub raised-leaf : (a b : ℕ) (e : Event) (k : ℕ) → IsNormal e → b + number e ≤ a → raised a b e ≡ leaf k → raised a b e ≡ leaf a
raised-leaf a b e k normal below is =
    let low = lowest e (depth e) (omega arith) in
    is ∙ ap leaf (omega (arith, ap (λ f. level f low.point) is, level-raised a b e low.point (omega (arith, low.long)), low.is, least-normal e normal))

-- the join of two forks, where those of their halves are both the first's or both the second's
halves_first : (a m b n : ℕ) (l r c d : Event) → IsOpen l r → (let k = min (a + m) (b + n) in join_of (a + m - k) l (b + n - k) c ≡ lift l (a + m - k)) → (let k = min (a + m) (b + n) in join_of (a + m - k) r (b + n - k) d ≡ lift r (a + m - k)) → join_of a (fork m l r) b (fork n c d) ≡ lift (fork m l r) a
halves_first a m b n l r c d halves left right =
    let k = min (a + m) (b + n) in
    ap₂ (norm k) left right ∙ norm-lift k (a + m - k) l r halves ∙ ap (λ i. fork i l r) (omega arith)

halves_second : (a m b n : ℕ) (l r c d : Event) → IsOpen c d → (let k = min (a + m) (b + n) in join_of (a + m - k) l (b + n - k) c ≡ lift c (b + n - k)) → (let k = min (a + m) (b + n) in join_of (a + m - k) r (b + n - k) d ≡ lift d (b + n - k)) → join_of a (fork m l r) b (fork n c d) ≡ lift (fork n c d) b
halves_second a m b n l r c d halves left right =
    let k = min (a + m) (b + n) in
    ap₂ (norm k) left right ∙ norm-lift k (b + n - k) c d halves ∙ ap (λ i. fork i c d) (omega arith)

is_the_first : (x y e : Event) (j : Joined) → IsOneOf x y e j → is_first j ≡ true → e ≡ x
is_the_first x y e First one test = one
is_the_first x y e Both one test = one.0
is_the_first x y e Second one test = absurd (cc)
is_the_first x y e (New node) one test = absurd (cc)

is_the_second : (x y e : Event) (j : Joined) → IsOneOf x y e j → is_second j ≡ true → e ≡ y
is_the_second x y e Second one test = one
is_the_second x y e Both one test = one.1
is_the_second x y e First one test = absurd (cc)
is_the_second x y e (New node) one test = absurd (cc)

shared_cases : (s t : Bool) (x y e : Event) → (s ≡ true → e ≡ x) → (t ≡ true → e ≡ y) → IfSome (shared_by s t) (IsOneOf x y e)
shared_cases true true x y e first second = (first refl, second refl)
shared_cases true false x y e first second = first refl
shared_cases false true x y e first second = second refl
shared_cases false false x y e first second = tt

-- a join is one of both forks where those of their halves are
pub is_whole : (a m b n : ℕ) (l r c d : Event) (left right whole : Joined) → IsOpen l r → IsOpen c d → (let k = min (a + m) (b + n) in IsJoined (a + m - k) l (b + n - k) c left) → (let k = min (a + m) (b + n) in IsJoined (a + m - k) r (b + n - k) d right) → whole_of left right ≡ Some whole → IsJoined a (fork m l r) b (fork n c d) whole
is_whole a m b n l r c d left right whole first second at_left at_right is =
    let k = min (a + m) (b + n) in
    let i = a + m - k in
    let j = b + n - k in
    subst (λ found. IfSome found (IsJoined a (fork m l r) b (fork n c d))) is (shared_cases (is_first left && is_first right) (is_second left && is_second right) (lift (fork m l r) a) (lift (fork n c d) b) (join_of a (fork m l r) b (fork n c d))
    (λ both. let parts = and_parts (is_first left) (is_first right) both in
    halves_first a m b n l r c d first (is_the_first (lift l i) (lift c j) (join_of i l j c) left at_left parts.0) (is_the_first (lift r i) (lift d j) (join_of i r j d) right at_right parts.1))
    (λ both. let parts = and_parts (is_second left) (is_second right) both in
    halves_second a m b n l r c d second (is_the_second (lift l i) (lift c j) (join_of i l j c) left at_left parts.0) (is_the_second (lift r i) (lift d j) (join_of i r j d) right at_right parts.1)))

pub ruleset whole_joins = (is_whole)
