-- Where filling changes nothing, each 1 of the id stands at a leaf of the event or below one.
use Rattle.std.proofs.Common.{◌≡◌, ℕ, ◌+◌, ◌≤◌, max, true, false, ◌∷◌, arith, ap, subst}
use Rattle.pana_id.specs.Id.{Id, zero_id, one_id, pair, IsNormal as IsNormalId}
use Rattle.pana_event.specs.Event.{Event, leaf, fork, number, level, least, greatest, depth, norm, IsNormal}
use Rattle.pana_event.proofs.Levels.{least-normal}
use Rattle.pana_event.proofs.Norms.{level-norm-left, level-norm-right}
use Rattle.pana_event.proofs.Points.{same-tree}
use Rattle.pana_stamp.specs.Fill.{fill}
use Rattle.pana_stamp.specs.Grow.{left_of, right_of}
use Rattle.pana_stamp.proofs.Fills.{normal-fill}

-- a half under a 1 isn't lower than the other's own number
abbrev pub Above : Id → Event → Event → Type 0
Above zero_id own other = Unit {0}
Above one_id own other = number other ≤ number own
Above (pair i j) own other = Unit {0}

-- each 1 of the id stands at a leaf or below one, and none beside a higher half
abbrev pub Ready : Id → Event → Type 0
Ready zero_id e = Unit {0}
Ready one_id (leaf n) = Unit {0}
Ready one_id (fork n l r) = ⊥
Ready (pair i j) (leaf n) = Unit {0}
Ready (pair i j) (fork n l r) = Ready i l × Ready j r × Above i l r × Above j r l

ready-leaf : (i : Id) (n : ℕ) → Ready i (leaf n)
ready-leaf zero_id n = tt
ready-leaf one_id n = tt
ready-leaf (pair i j) n = tt

above-leaf : (i : Id) → Above i (leaf 0) (leaf 0)
above-leaf zero_id = tt
above-leaf one_id = omega arith
above-leaf (pair i j) = tt

pub ready-left_of : (i j : Id) (e : Event) → Ready (pair i j) e → Ready i (left_of e)
ready-left_of i j (leaf n) ready = ready-leaf i 0
ready-left_of i j (fork n l r) ready = ready.0

pub ready-right_of : (i j : Id) (e : Event) → Ready (pair i j) e → Ready j (right_of e)
ready-right_of i j (leaf n) ready = ready-leaf j 0
ready-right_of i j (fork n l r) ready = ready.1

pub above-left_of : (i j : Id) (e : Event) → Ready (pair i j) e → Above i (left_of e) (right_of e)
above-left_of i j (leaf n) ready = above-leaf i
above-left_of i j (fork n l r) ready = ready.2

pub above-right_of : (i j : Id) (e : Event) → Ready (pair i j) e → Above j (right_of e) (left_of e)
above-right_of i j (leaf n) ready = above-leaf j
above-right_of i j (fork n l r) ready = ready.3

-- the halves of a normal form that is a fork over the same number are that fork's
same-left : (n : ℕ) (x y l r : Event) → IsNormal x → IsNormal l → norm n x y ≡ fork n l r → x ≡ l
same-left n x y l r first second same =
    same-tree (depth x + depth l) x l first second (omega arith) (omega arith)
    (λ point long. omega (arith, level-norm-left n x y point, ap (λ e. level e (false ∷ point)) same))

same-right : (n : ℕ) (x y l r : Event) → IsNormal y → IsNormal r → norm n x y ≡ fork n l r → y ≡ r
same-right n x y l r first second same =
    same-tree (depth y + depth r) y r first second (omega arith) (omega arith)
    (λ point long. omega (arith, level-norm-right n x y point, ap (λ e. level e (true ∷ point)) same))

pub ready-fill : (i : Id) (e : Event) → IsNormalId i → IsNormal e → fill i e ≡ e → Ready i e
ready-fill zero_id e id normal same = tt
ready-fill one_id (leaf n) id normal same = tt
ready-fill one_id (fork n l r) id normal same = absurd (cc)
ready-fill (pair i j) (leaf n) id normal same = tt
ready-fill (pair one_id one_id) (fork n l r) id normal same = absurd id.2
ready-fill (pair one_id j) (fork n l r) id normal same =
    let f = fill j r in
    let level_of = max (greatest l) (least f) in
    let right : f ≡ r = same-right n (leaf level_of) f l r (normal-fill j r normal.2) normal.2 same in
    let left : leaf level_of ≡ l = same-left n (leaf level_of) f l r tt normal.1 same in
    (subst (Ready one_id) left tt, ready-fill j r id.1 normal.2 right, omega (arith, ap number left, ap least right, least-normal r normal.2), tt)
ready-fill (pair i one_id) (fork n l r) id normal same =
    let f = fill i l in
    let level_of = max (greatest r) (least f) in
    let left : f ≡ l = same-left n f (leaf level_of) l r (normal-fill i l normal.1) normal.1 same in
    let right : leaf level_of ≡ r = same-right n f (leaf level_of) l r tt normal.2 same in
    (ready-fill i l id.0 normal.1 left, subst (Ready one_id) right tt, tt, omega (arith, ap number right, ap least left, least-normal l normal.1))
ready-fill (pair i j) (fork n l r) id normal same =
    let left : fill i l ≡ l = same-left n (fill i l) (fill j r) l r (normal-fill i l normal.1) normal.1 same in
    let right : fill j r ≡ r = same-right n (fill i l) (fill j r) l r (normal-fill j r normal.2) normal.2 same in
    (ready-fill i l id.0 normal.1 left, ready-fill j r id.1 normal.2 right, tt, tt)
