-- One event below another.
use Rattle.std.proofs.Common.{◌≡◌, ℕ, zero, suc, ◌+◌, ◌≤◌, Bool, true, false, ◌&&◌, nat_le, List, [], ◌∷◌, length, arith, leb-true, le-leb}
use Rattle.std.proofs.lemmas.Bool.{and_parts, and_from}
use Rattle.pana_event.specs.Event.{Event, leaf, fork, number, level, depth, IsNormal}
use Rattle.pana_event.specs.Order.{is_below, is_leq, IsBelow}
use Rattle.pana_event.proofs.Levels.{number-le-level, least-normal, lowest}

later_parts : (own left right : Bool) → (own && (left && right)) ≡ true → (left ≡ true) × (right ≡ true)
later_parts own left right all = and_parts left right (and_parts own (left && right) all).1

-- where the test passes, no level is above the other's
pub below-levels : (a : ℕ) (e : Event) (b : ℕ) (f : Event) (point : List Bool) → depth e ≤ length point → depth f ≤ length point → is_below a e b f ≡ true → a + level e point ≤ b + level f point
below-levels a (leaf m) b f point first second below =
    omega (arith, leb-true (a + m) (b + number f) below, number-le-level f point)
below-levels a (fork m l r) b (leaf n) [] first second below = absurd (omega arith)
below-levels a (fork m l r) b (leaf n) (false ∷ point) first second below =
    let halves = later_parts (nat_le (a + m) (b + n)) (is_below (a + m) l b (leaf n)) (is_below (a + m) r b (leaf n)) below in
    omega (arith, below-levels (a + m) l b (leaf n) point (omega arith) (omega arith) halves.0)
below-levels a (fork m l r) b (leaf n) (true ∷ point) first second below =
    let halves = later_parts (nat_le (a + m) (b + n)) (is_below (a + m) l b (leaf n)) (is_below (a + m) r b (leaf n)) below in
    omega (arith, below-levels (a + m) r b (leaf n) point (omega arith) (omega arith) halves.1)
below-levels a (fork m l r) b (fork n c d) [] first second below = absurd (omega arith)
below-levels a (fork m l r) b (fork n c d) (false ∷ point) first second below =
    let halves = later_parts (nat_le (a + m) (b + n)) (is_below (a + m) l (b + n) c) (is_below (a + m) r (b + n) d) below in
    omega (arith, below-levels (a + m) l (b + n) c point (omega arith) (omega arith) halves.0)
below-levels a (fork m l r) b (fork n c d) (true ∷ point) first second below =
    let halves = later_parts (nat_le (a + m) (b + n)) (is_below (a + m) l (b + n) c) (is_below (a + m) r (b + n) d) below in
    omega (arith, below-levels (a + m) r (b + n) d point (omega arith) (omega arith) halves.1)

-- where no level is above the other's, the test passes; the other event is normal
pub below-from : (a : ℕ) (e : Event) (b : ℕ) (f : Event) (choices : ℕ) → depth e ≤ choices → depth f ≤ choices → IsNormal f → ((point : List Bool) → length point ≡ choices → a + level e point ≤ b + level f point) → is_below a e b f ≡ true
below-from a (leaf m) b f choices first second normal levels =
    let low = lowest f choices second in
    le-leb (a + m) (b + number f) (omega (arith, levels low.point low.long, low.is, least-normal f normal))
below-from a (fork m l r) b f zero first second normal levels = absurd (omega arith)
below-from a (fork m l r) b (leaf n) (suc choices) first second normal levels =
    let low = lowest (leaf n) (suc choices) second in
    let own = le-leb (a + m) (b + n) (omega (arith, levels low.point low.long, number-le-level (fork m l r) low.point, low.is)) in
    let left = below-from (a + m) l b (leaf n) choices (omega arith) (omega arith) tt (λ point long. omega (arith, levels (false ∷ point) (omega arith))) in
    let right = below-from (a + m) r b (leaf n) choices (omega arith) (omega arith) tt (λ point long. omega (arith, levels (true ∷ point) (omega arith))) in
    and_from _ _ own (and_from _ _ left right)
below-from a (fork m l r) b (fork n c d) (suc choices) first second normal levels =
    let low = lowest (fork n c d) (suc choices) second in
    let own = le-leb (a + m) (b + n) (omega (arith, levels low.point low.long, number-le-level (fork m l r) low.point, low.is, least-normal (fork n c d) normal)) in
    let left = below-from (a + m) l (b + n) c choices (omega arith) (omega arith) normal.1 (λ point long. omega (arith, levels (false ∷ point) (omega arith))) in
    let right = below-from (a + m) r (b + n) d choices (omega arith) (omega arith) normal.2 (λ point long. omega (arith, levels (true ∷ point) (omega arith))) in
    and_from _ _ own (and_from _ _ left right)

pub leq-is-below : (e f : Event) → depth e ≤ 256 → depth f ≤ 256 → is_leq e f ≡ true → IsBelow e f
leq-is-below e f first second leq =
    record { levels = λ point long. omega (arith, below-levels 0 e 0 f point (omega arith) (omega arith) leq) }

pub below-is-leq : (e f : Event) → depth e ≤ 256 → depth f ≤ 256 → IsNormal f → IsBelow e f → is_leq e f ≡ true
below-is-leq e f first second normal below =
    below-from 0 e 0 f 256 first second normal (λ point long. omega (arith, below.levels point long))
