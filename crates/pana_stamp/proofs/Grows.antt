-- What a grown event is.
use Rattle.std.specs.Prelude.{if◌then◌else◌}
use Rattle.std.proofs.Common.{◌≡◌, ℕ, zero, suc, ◌+◌, ◌≤◌, min, max, Bool, true, false, List, [], ◌∷◌, length, replicate, arith, refl}
use Rattle.std.proofs.lemmas.Bool.{ne_eqb}
use Rattle.std.proofs.lemmas.List.{length-replicate}
use Rattle.pana_id.specs.Id.{Id, zero_id, one_id, pair, is_zero, has, depth as id_depth, IsNormal as IsNormalId}
use Rattle.pana_id.proofs.Pairs.{is_zero-open}
use Rattle.pana_event.specs.Event.{Event, leaf, fork, number, greatest, depth, IsOpen, IsNormal}
use Rattle.pana_event.proofs.Levels.{level-le-greatest, highest}
use Rattle.pana_stamp.specs.declared.cost.Cost.{Cost}
use Rattle.pana_stamp.specs.Cost.{is_cheaper}
use Rattle.pana_stamp.specs.Grow.{left_of, right_of, goes_right, cost_of, grow, leads_to_one, one_at, IsGrown}
use Rattle.pana_stamp.specs.Raised.{IsRaised}
use Rattle.pana_stamp.proofs.Halves.{depth-left_of, depth-right_of, normal-left_of, normal-right_of, one_is_zero}
use Rattle.pana_stamp.proofs.Ready.{Above, Ready, ready-left_of, ready-right_of, above-left_of, above-right_of}
use Rattle.pana_stamp.proofs.Growths.{Growth, growth, place_of, right_facts, left_facts, IsGrowthPlace-place_of}

depth_if : (t : Bool) (x y : Event) (n : ℕ) → depth x ≤ n → depth y ≤ n → depth (if t then x else y) ≤ n
depth_if true x y n first second = first
depth_if false x y n first second = second

-- the grown tree is no deeper than the deeper of both
pub depth-grow : (i : Id) (e : Event) → depth (grow i e) ≤ max (id_depth i) (depth e)
depth-grow zero_id e = omega arith
depth-grow one_id e = omega arith
depth-grow (pair i j) e =
    let l = left_of e in
    let r = right_of e in
    depth_if (goes_right i j (cost_of i l) (cost_of j r)) (fork (number e) l (grow j r)) (fork (number e) (grow i l) r) (max (id_depth (pair i j)) (depth e))
    (omega (arith, depth-left_of e, depth-right_of e, depth-grow j r))
    (omega (arith, depth-left_of e, depth-right_of e, depth-grow i l))

-- beside a half whose own number isn't changed the pair stays open
open_if_right : (t : Bool) (l : Event) (n : ℕ) (a b c d : Event) → min (number l) n ≡ 0 → IsOpen l (if t then fork n a b else fork n c d)
open_if_right true (leaf m) n a b c d zero_one = record { from_zero = zero_one; differ = refl }
open_if_right true (fork m x y) n a b c d zero_one = record { from_zero = zero_one; differ = refl }
open_if_right false (leaf m) n a b c d zero_one = record { from_zero = zero_one; differ = refl }
open_if_right false (fork m x y) n a b c d zero_one = record { from_zero = zero_one; differ = refl }

open_if_left : (t : Bool) (r : Event) (n : ℕ) (a b c d : Event) → min n (number r) ≡ 0 → IsOpen (if t then fork n a b else fork n c d) r
open_if_left true (leaf m) n a b c d zero_one = record { from_zero = zero_one; differ = refl }
open_if_left true (fork m x y) n a b c d zero_one = record { from_zero = zero_one; differ = refl }
open_if_left false (leaf m) n a b c d zero_one = record { from_zero = zero_one; differ = refl }
open_if_left false (fork m x y) n a b c d zero_one = record { from_zero = zero_one; differ = refl }

open_one_right : (l : Event) (m : ℕ) → number l ≤ m → min (number l) m ≡ 0 → IsOpen l (leaf (m + 1))
open_one_right (leaf n) m above zero_one =
    record { from_zero = omega arith; differ = ne_eqb n (m + 1) (λ same. omega arith) }
open_one_right (fork n x y) m above zero_one = record { from_zero = omega arith; differ = refl }

open_one_left : (r : Event) (m : ℕ) → number r ≤ m → min m (number r) ≡ 0 → IsOpen (leaf (m + 1)) r
open_one_left (leaf n) m above zero_one =
    record { from_zero = omega arith; differ = ne_eqb (m + 1) n (λ same. omega arith) }
open_one_left (fork n x y) m above zero_one = record { from_zero = omega arith; differ = refl }

open_right : (j : Id) (l r : Event) → is_zero j ≡ false → Above j r l → min (number l) (number r) ≡ 0 → IsOpen l (grow j r)
open_right zero_id l r some above zero_one = absurd (cc)
open_right one_id l r some above zero_one = open_one_right l (number r) above zero_one
open_right (pair i j) l r some above zero_one =
    open_if_right (goes_right i j (cost_of i (left_of r)) (cost_of j (right_of r))) l (number r) (left_of r) (grow j (right_of r)) (grow i (left_of r)) (right_of r) zero_one

open_left : (i : Id) (l r : Event) → is_zero i ≡ false → Above i l r → min (number l) (number r) ≡ 0 → IsOpen (grow i l) r
open_left zero_id l r some above zero_one = absurd (cc)
open_left one_id l r some above zero_one = open_one_left r (number l) above zero_one
open_left (pair i j) l r some above zero_one =
    open_if_left (goes_right i j (cost_of i (left_of l)) (cost_of j (right_of l))) r (number l) (left_of l) (grow j (right_of l)) (grow i (left_of l)) (right_of l) zero_one

normal_if : (t : Bool) (x y : Event) → (t ≡ true → IsNormal x) → (t ≡ false → IsNormal y) → IsNormal (if t then x else y)
normal_if true x y first second = first refl
normal_if false x y first second = second refl

-- the grown tree is normal
pub normal-grow : (i : Id) (e : Event) → IsNormalId i → is_zero i ≡ false → IsNormal e → Ready i e → IsNormal (grow i e)
normal-grow zero_id e id some normal ready = normal
normal-grow one_id e id some normal ready = tt
normal-grow (pair i j) e id some normal ready =
    let l = left_of e in
    let r = right_of e in
    let a = cost_of i l in
    let b = cost_of j r in
    normal_if (goes_right i j a b) (fork (number e) l (grow j r)) (fork (number e) (grow i l) r)
    (λ test.
    let facts = right_facts (is_zero i) (is_zero j) (is_cheaper a b) (is_zero-open i j id.2) test in
    (open_right j l r facts.0 (above-right_of i j e ready) (one_is_zero e normal), normal-left_of e normal, normal-grow j r id.1 facts.0 (normal-right_of e normal) (ready-right_of i j e ready)))
    (λ test.
    let facts = left_facts (is_zero i) (is_zero j) (is_cheaper a b) test in
    (open_left i l r facts.0 (above-left_of i j e ready) (one_is_zero e normal), normal-grow i l id.0 facts.0 (normal-left_of e normal) (ready-left_of i j e ready), normal-right_of e normal))

one_at-le : (place point : List Bool) → one_at place point ≤ 1
one_at-le [] point = omega arith
one_at-le (choice ∷ place) [] = omega arith
one_at-le (false ∷ place) (false ∷ point) = one_at-le place point
one_at-le (false ∷ place) (true ∷ point) = omega arith
one_at-le (true ∷ place) (false ∷ point) = omega arith
one_at-le (true ∷ place) (true ∷ point) = one_at-le place point

-- a point that isn't owned is at no place of the id
one_at-others : (i : Id) (place point : List Bool) → leads_to_one i place ≡ true → has i point ≡ false → one_at place point ≡ 0
one_at-others zero_id place point leads apart = absurd (cc)
one_at-others one_id place point leads apart = absurd (cc)
one_at-others (pair l r) [] point leads apart = absurd (cc)
one_at-others (pair l r) (choice ∷ place) [] leads apart = refl
one_at-others (pair l r) (false ∷ place) (false ∷ point) leads apart = one_at-others l place point leads apart
one_at-others (pair l r) (false ∷ place) (true ∷ point) leads apart = refl
one_at-others (pair l r) (true ∷ place) (false ∷ point) leads apart = refl
one_at-others (pair l r) (true ∷ place) (true ∷ point) leads apart = one_at-others r place point leads apart

-- a point of so many choices at a place of the id
record IsPointAt (i : Id) (place : List Bool) (choices : ℕ) : Type 0 where
  pub point : List Bool
  pub long : length point ≡ choices
  pub owned : has i point ≡ true
  pub is : one_at place point ≡ 1

goes_on : (i j : Id) (choice : Bool) (place : List Bool) (choices : ℕ) (point : List Bool) → length point ≡ choices → has (pair i j) (choice ∷ point) ≡ true → one_at (choice ∷ place) (choice ∷ point) ≡ 1 → IsPointAt (pair i j) (choice ∷ place) (suc choices)
goes_on i j choice place choices point long owned is =
    record { point = choice ∷ point; long = omega (arith, long); owned = owned; is = is }

point_at : (i : Id) (place : List Bool) (choices : ℕ) → leads_to_one i place ≡ true → id_depth i ≤ choices → IsPointAt i place choices
point_at zero_id place choices leads deep = absurd (cc)
point_at one_id [] choices leads deep =
    record { point = replicate choices false; long = length-replicate choices false; owned = refl; is = refl }
point_at one_id (choice ∷ place) choices leads deep = absurd (cc)
point_at (pair l r) [] choices leads deep = absurd (cc)
point_at (pair l r) (choice ∷ place) zero leads deep = absurd (omega arith)
point_at (pair l r) (false ∷ place) (suc choices) leads deep =
    let below = point_at l place choices leads (omega arith) in
    goes_on l r false place choices below.point below.long below.owned below.is
point_at (pair l r) (true ∷ place) (suc choices) leads deep =
    let below = point_at r place choices leads (omega arith) in
    goes_on l r true place choices below.point below.long below.owned below.is

greatest_from : (i : Id) (e g : Event) (c : Cost) (place : List Bool) (choices : ℕ) → Growth i e g c place → id_depth i ≤ choices → depth g ≤ choices → greatest g ≤ greatest e + 1
greatest_from i e g c place choices growth deep within =
    let top = highest g choices within in
    omega (arith, top.is, top.long, growth.levels top.point (omega (arith, top.long)), level-le-greatest e top.point, one_at-le place top.point)

-- the greatest level is at most one more
pub greatest-grow : (i : Id) (e : Event) → IsNormalId i → is_zero i ≡ false → Ready i e → greatest (grow i e) ≤ greatest e + 1
greatest-grow i e normal some ready =
    greatest_from i e (grow i e) (cost_of i e) (place_of i e) (max (id_depth i) (depth e)) (growth i e normal some ready) (omega arith) (depth-grow i e)

pub IsGrown-grow : (i : Id) (e : Event) → IsNormalId i → id_depth i ≤ 256 → is_zero i ≡ false → Ready i e → IsGrown i e (grow i e) (cost_of i e)
IsGrown-grow i e normal within some ready =
    let grows = growth i e normal some ready in
    record {
      place = place_of i e;
      best = IsGrowthPlace-place_of i e (grow i e) (cost_of i e) (place_of i e) grows;
      costs = grows.costs;
      levels = λ point long. grows.levels point (omega arith);
    }

pub IsRaised-grow : (i : Id) (e : Event) → IsNormalId i → id_depth i ≤ 256 → is_zero i ≡ false → Ready i e → IsRaised i e (grow i e)
IsRaised-grow i e normal within some ready =
    let grows = growth i e normal some ready in
    let at = point_at i (place_of i e) 256 grows.one within in
    record {
      kept = λ point long. omega (arith, grows.levels point (omega arith));
      others = λ point long apart. omega (arith, grows.levels point (omega arith), one_at-others i (place_of i e) point grows.one apart);
      point = at.point;
      long = at.long;
      owned = at.owned;
      higher = omega (arith, grows.levels at.point (omega (arith, at.long)), at.is);
      bound = greatest-grow i e normal some ready;
    }
