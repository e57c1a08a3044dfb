-- The join of two events.
use Rattle.std.proofs.Common.{◌≡◌, ℕ, ◌+◌, ◌-◌, ◌≤◌, min, max, Bool, true, false, List, [], ◌∷◌, length, arith, refl, ap, ap₂, ◌∙◌}
use Rattle.pana_event.specs.Event.{Event, leaf, fork, level, greatest, depth, norm, IsNormal}
use Rattle.pana_event.specs.Join.{raised, join_of}
use Rattle.pana_event.proofs.Norms.{greatest-norm, depth-norm, level-norm-left, level-norm-right, normal-norm}

pub greatest-raised : (a b : ℕ) (e : Event) → greatest (raised a b e) ≡ max a (b + greatest e)
greatest-raised a b (leaf n) = refl
greatest-raised a b (fork n l r) =
    let k = min a (b + n) in
    let above = b + n - k in
    omega (arith, greatest-norm k (raised (a - k) above l) (raised (a - k) above r), greatest-raised (a - k) above l, greatest-raised (a - k) above r)

pub greatest-join_of : (a : ℕ) (e : Event) (b : ℕ) (f : Event) → greatest (join_of a e b f) ≡ max (a + greatest e) (b + greatest f)
greatest-join_of a (leaf m) b f = greatest-raised (a + m) b f
greatest-join_of a (fork m l r) b (leaf n) = omega (arith, greatest-raised (b + n) a (fork m l r))
greatest-join_of a (fork m l r) b (fork n c d) =
    let k = min (a + m) (b + n) in
    let i = a + m - k in
    let j = b + n - k in
    omega (arith, greatest-norm k (join_of i l j c) (join_of i r j d), greatest-join_of i l j c, greatest-join_of i r j d)

pub ruleset greatest_joins = (greatest-raised, greatest-join_of)

pub depth-raised : (a b : ℕ) (e : Event) → depth (raised a b e) ≤ depth e
depth-raised a b (leaf n) = omega arith
depth-raised a b (fork n l r) =
    let k = min a (b + n) in
    let above = b + n - k in
    omega (arith, depth-norm k (raised (a - k) above l) (raised (a - k) above r), depth-raised (a - k) above l, depth-raised (a - k) above r)

pub depth-join_of : (a : ℕ) (e : Event) (b : ℕ) (f : Event) → depth (join_of a e b f) ≤ max (depth e) (depth f)
depth-join_of a (leaf m) b f = omega (arith, depth-raised (a + m) b f)
depth-join_of a (fork m l r) b (leaf n) = omega (arith, depth-raised (b + n) a (fork m l r))
depth-join_of a (fork m l r) b (fork n c d) =
    let k = min (a + m) (b + n) in
    let i = a + m - k in
    let j = b + n - k in
    omega (arith, depth-norm k (join_of i l j c) (join_of i r j d), depth-join_of i l j c, depth-join_of i r j d)

pub normal-raised : (a b : ℕ) (e : Event) → IsNormal e → IsNormal (raised a b e)
normal-raised a b (leaf n) normal = tt
normal-raised a b (fork n l r) normal =
    let k = min a (b + n) in
    let above = b + n - k in
    normal-norm k (raised (a - k) above l) (raised (a - k) above r) (normal-raised (a - k) above l normal.1) (normal-raised (a - k) above r normal.2)

pub normal-join_of : (a : ℕ) (e : Event) (b : ℕ) (f : Event) → IsNormal e → IsNormal f → IsNormal (join_of a e b f)
normal-join_of a (leaf m) b f first second = normal-raised (a + m) b f second
normal-join_of a (fork m l r) b (leaf n) first second = normal-raised (b + n) a (fork m l r) first
normal-join_of a (fork m l r) b (fork n c d) first second =
    let k = min (a + m) (b + n) in
    let i = a + m - k in
    let j = b + n - k in
    normal-norm k (join_of i l j c) (join_of i r j d) (normal-join_of i l j c first.1 second.1) (normal-join_of i r j d first.2 second.2)

pub level-raised : (a b : ℕ) (e : Event) (point : List Bool) → depth e ≤ length point → level (raised a b e) point ≡ max a (b + level e point)
level-raised a b (leaf n) point deep = refl
level-raised a b (fork n l r) [] deep = absurd (omega arith)
level-raised a b (fork n l r) (false ∷ point) deep =
    let k = min a (b + n) in
    let above = b + n - k in
    omega (arith, level-norm-left k (raised (a - k) above l) (raised (a - k) above r) point, level-raised (a - k) above l point (omega arith))
level-raised a b (fork n l r) (true ∷ point) deep =
    let k = min a (b + n) in
    let above = b + n - k in
    omega (arith, level-norm-right k (raised (a - k) above l) (raised (a - k) above r) point, level-raised (a - k) above r point (omega arith))

-- the level of a join is the greater of both
pub level-join_of : (a : ℕ) (e : Event) (b : ℕ) (f : Event) (point : List Bool) → depth e ≤ length point → depth f ≤ length point → level (join_of a e b f) point ≡ max (a + level e point) (b + level f point)
level-join_of a (leaf m) b f point first second = level-raised (a + m) b f point second
level-join_of a (fork m l r) b (leaf n) point first second =
    omega (arith, level-raised (b + n) a (fork m l r) point first)
level-join_of a (fork m l r) b (fork n c d) [] first second = absurd (omega arith)
level-join_of a (fork m l r) b (fork n c d) (false ∷ point) first second =
    let k = min (a + m) (b + n) in
    let i = a + m - k in
    let j = b + n - k in
    omega (arith, level-norm-left k (join_of i l j c) (join_of i r j d) point, level-join_of i l j c point (omega arith) (omega arith))
level-join_of a (fork m l r) b (fork n c d) (true ∷ point) first second =
    let k = min (a + m) (b + n) in
    let i = a + m - k in
    let j = b + n - k in
    omega (arith, level-norm-right k (join_of i l j c) (join_of i r j d) point, level-join_of i r j d point (omega arith) (omega arith))

-- the order of the arguments doesn't matter
pub join_of_comm : (a : ℕ) (e : Event) (b : ℕ) (f : Event) → join_of a e b f ≡ join_of b f a e
join_of_comm a (leaf m) b (leaf n) = ap leaf (omega arith)
join_of_comm a (leaf m) b (fork n c d) = refl
join_of_comm a (fork m l r) b (leaf n) = refl
join_of_comm a (fork m l r) b (fork n c d) =
    let x = a + m in
    let y = b + n in
    let k = min y x in
    let turned : min x y ≡ k = omega arith in
    ap (λ i. norm i (join_of (x - i) l (y - i) c) (join_of (x - i) r (y - i) d)) turned
    ∙ ap₂ (norm k) (join_of_comm (x - k) l (y - k) c) (join_of_comm (x - k) r (y - k) d)
