-- What filling gives.
use Rattle.std.proofs.Common.{◌≡◌, ℕ, ◌≤◌, max, Bool, true, false, List, [], ◌∷◌, length, arith, refl, ap}
use Rattle.pana_id.specs.Id.{Id, zero_id, one_id, pair, has, is_one}
use Rattle.pana_event.specs.Event.{Event, leaf, fork, level, least, greatest, norm, depth, IsNormal, IsSound}
use Rattle.pana_event.proofs.Levels.{least-le-greatest, level-le-greatest}
use Rattle.pana_event.proofs.Norms.{greatest-norm, depth-norm, level-norm-left, level-norm-right, normal-norm}
use Rattle.pana_stamp.specs.Fill.{fill, IsFilled}

-- no level is filled above the greatest
pub greatest-fill : (i : Id) (e : Event) → greatest (fill i e) ≤ greatest e
greatest-fill zero_id e = omega arith
greatest-fill one_id e = omega arith
greatest-fill (pair i j) (leaf n) = omega arith
greatest-fill (pair one_id i) (fork n l r) =
    let f = fill i r in
    omega (arith, greatest-norm n (leaf (max (greatest l) (least f))) f, greatest-fill i r, least-le-greatest f)
greatest-fill (pair i one_id) (fork n l r) =
    let f = fill i l in
    omega (arith, greatest-norm n f (leaf (max (greatest r) (least f))), greatest-fill i l, least-le-greatest f)
greatest-fill (pair i j) (fork n l r) =
    omega (arith, greatest-norm n (fill i l) (fill j r), greatest-fill i l, greatest-fill j r)

pub depth-fill : (i : Id) (e : Event) → depth (fill i e) ≤ depth e
depth-fill zero_id e = omega arith
depth-fill one_id e = omega arith
depth-fill (pair i j) (leaf n) = omega arith
depth-fill (pair one_id i) (fork n l r) =
    let f = fill i r in
    omega (arith, depth-norm n (leaf (max (greatest l) (least f))) f, depth-fill i r)
depth-fill (pair i one_id) (fork n l r) =
    let f = fill i l in
    omega (arith, depth-norm n f (leaf (max (greatest r) (least f))), depth-fill i l)
depth-fill (pair i j) (fork n l r) =
    omega (arith, depth-norm n (fill i l) (fill j r), depth-fill i l, depth-fill j r)

pub normal-fill : (i : Id) (e : Event) → IsNormal e → IsNormal (fill i e)
normal-fill zero_id e normal = normal
normal-fill one_id e normal = tt
normal-fill (pair i j) (leaf n) normal = tt
normal-fill (pair one_id i) (fork n l r) normal =
    let f = fill i r in
    normal-norm n (leaf (max (greatest l) (least f))) f tt (normal-fill i r normal.2)
normal-fill (pair i one_id) (fork n l r) normal =
    let f = fill i l in
    normal-norm n f (leaf (max (greatest r) (least f))) (normal-fill i l normal.1) tt
normal-fill (pair i j) (fork n l r) normal =
    normal-norm n (fill i l) (fill j r) (normal-fill i l normal.1) (normal-fill j r normal.2)

pub ruleset fill_limits = (greatest-fill, least-le-greatest, normal-fill)

-- no level is lowered
pub kept-fill : (i : Id) (e : Event) (point : List Bool) → depth e ≤ length point → level e point ≤ level (fill i e) point
kept-fill zero_id e point deep = omega arith
kept-fill one_id e point deep = level-le-greatest e point
kept-fill (pair i j) (leaf n) point deep = omega arith
kept-fill (pair i j) (fork n l r) [] deep = absurd (omega arith)
kept-fill (pair one_id i) (fork n l r) (false ∷ point) deep =
    let f = fill i r in
    omega (arith, level-norm-left n (leaf (max (greatest l) (least f))) f point, level-le-greatest l point)
kept-fill (pair one_id i) (fork n l r) (true ∷ point) deep =
    let f = fill i r in
    omega (arith, level-norm-right n (leaf (max (greatest l) (least f))) f point, kept-fill i r point (omega arith))
kept-fill (pair i one_id) (fork n l r) (false ∷ point) deep =
    let f = fill i l in
    omega (arith, level-norm-left n f (leaf (max (greatest r) (least f))) point, kept-fill i l point (omega arith))
kept-fill (pair i one_id) (fork n l r) (true ∷ point) deep =
    let f = fill i l in
    omega (arith, level-norm-right n f (leaf (max (greatest r) (least f))) point, level-le-greatest r point)
kept-fill (pair i j) (fork n l r) (false ∷ point) deep =
    omega (arith, level-norm-left n (fill i l) (fill j r) point, kept-fill i l point (omega arith))
kept-fill (pair i j) (fork n l r) (true ∷ point) deep =
    omega (arith, level-norm-right n (fill i l) (fill j r) point, kept-fill j r point (omega arith))

-- a point that isn't owned keeps its level
pub others-fill : (i : Id) (e : Event) (point : List Bool) → depth e ≤ length point → has i point ≡ false → level (fill i e) point ≡ level e point
others-fill zero_id e point deep apart = refl
others-fill one_id e point deep apart = absurd (cc)
others-fill (pair i j) (leaf n) point deep apart = refl
others-fill (pair i j) (fork n l r) [] deep apart = absurd (omega arith)
others-fill (pair one_id i) (fork n l r) (false ∷ point) deep apart = absurd (cc)
others-fill (pair one_id i) (fork n l r) (true ∷ point) deep apart =
    let f = fill i r in
    omega (arith, level-norm-right n (leaf (max (greatest l) (least f))) f point, others-fill i r point (omega arith) apart)
others-fill (pair i one_id) (fork n l r) (false ∷ point) deep apart =
    let f = fill i l in
    omega (arith, level-norm-left n f (leaf (max (greatest r) (least f))) point, others-fill i l point (omega arith) apart)
others-fill (pair i one_id) (fork n l r) (true ∷ point) deep apart = absurd (cc)
others-fill (pair i j) (fork n l r) (false ∷ point) deep apart =
    omega (arith, level-norm-left n (fill i l) (fill j r) point, others-fill i l point (omega arith) apart)
others-fill (pair i j) (fork n l r) (true ∷ point) deep apart =
    omega (arith, level-norm-right n (fill i l) (fill j r) point, others-fill j r point (omega arith) apart)

pub IsFilled-fill : (i : Id) (e : Event) → depth e ≤ 256 → IsFilled i e (fill i e)
IsFilled-fill i e shallow =
    record {
      kept = λ point long. kept-fill i e point (omega arith);
      others = λ point long apart. others-fill i e point (omega arith) apart;
      bound = λ point long. omega (arith, level-le-greatest (fill i e) point, greatest-fill i e);
    }

pub IsSound-fill : (i : Id) (e : Event) → IsSound e → IsSound (fill i e)
IsSound-fill i e sound =
    record {
      normal = normal-fill i e sound.normal;
      shallow = omega (arith, depth-fill i e, sound.shallow);
      fits = omega (arith, greatest-fill i e, sound.fits);
    }

-- what filling a fork is where the left half of the id isn't 1
pub fill_right : (i j : Id) (n : ℕ) (l r : Event) → is_one i ≡ false → j ≡ one_id → fill (pair i j) (fork n l r) ≡ norm n (fill i l) (leaf (max (greatest r) (least (fill i l))))
fill_right zero_id j n l r other one = ap (λ j. fill (pair zero_id j) (fork n l r)) one
fill_right one_id j n l r other one = absurd (cc)
fill_right (pair a b) j n l r other one = ap (λ j. fill (pair (pair a b) j) (fork n l r)) one

pub fill_both : (i j : Id) (n : ℕ) (l r : Event) → is_one i ≡ false → is_one j ≡ false → fill (pair i j) (fork n l r) ≡ norm n (fill i l) (fill j r)
fill_both one_id j n l r other other' = absurd (cc)
fill_both zero_id one_id n l r other other' = absurd (cc)
fill_both zero_id zero_id n l r other other' = refl
fill_both zero_id (pair c d) n l r other other' = refl
fill_both (pair a b) one_id n l r other other' = absurd (cc)
fill_both (pair a b) zero_id n l r other other' = refl
fill_both (pair a b) (pair c d) n l r other other' = refl
