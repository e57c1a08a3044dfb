-- What an update gives, and the same facts in the form in which the calls meet them.
use Rattle.std.proofs.Common.{◌≡◌, ℕ, zero, suc, ◌+◌, ◌<◌, ◌≤◌, Bool, true, false, ◌&&◌, List, ◌∷◌, length, arith, refl, inl, inr}
use Rattle.std.proofs.lemmas.Bool.{cases_Bool, and_cases, leb-false}
use Rattle.std.specs.Prelude.{nat_le}
use Rattle.pana_id.specs.Id.{Id, has}
use Rattle.pana_event.specs.Event.{Event, leaf, fork, number, level, depth, IsNormal}
use Rattle.pana_event.specs.Order.{is_below, is_leq}
use Rattle.pana_event.proofs.Levels.{least-normal, lowest, number-le-level}
use Rattle.pana_event.proofs.Orders.{leq-is-below}
use Rattle.pana_event.proofs.Sound.{same_below}
use Rattle.pana_stamp.specs.Fill.{fill}
use Rattle.pana_stamp.specs.Raised.{IsRaised}
use Rattle.pana_stamp.proofs.Fills.{depth-fill, normal-fill, greatest-fill, IsFilled-fill}

-- a point of so many choices at which the first event, lifted by a, is above the second, lifted by b
record IsAbove (a : ℕ) (e : Event) (b : ℕ) (f : Event) (choices : ℕ) : Type 0 where
  pub point : List Bool
  pub long : length point ≡ choices
  pub higher : b + level f point < a + level e point

above_left : (a : ℕ) (l : Event) (b : ℕ) (f : Event) (m : ℕ) (r : Event) (choices : ℕ) (g : Event) (c : ℕ) → ((point : List Bool) → c + level g (false ∷ point) ≡ b + level f point) → IsAbove (a + m) l b f choices → IsAbove a (fork m l r) c g (suc choices)
above_left a l b f m r choices g c same below =
    record {
      point = false ∷ below.point;
      long = omega (arith, below.long);
      higher = omega (arith, below.higher, same below.point);
    }

above_right : (a : ℕ) (r : Event) (b : ℕ) (f : Event) (m : ℕ) (l : Event) (choices : ℕ) (g : Event) (c : ℕ) → ((point : List Bool) → c + level g (true ∷ point) ≡ b + level f point) → IsAbove (a + m) r b f choices → IsAbove a (fork m l r) c g (suc choices)
above_right a r b f m l choices g c same below =
    record {
      point = true ∷ below.point;
      long = omega (arith, below.long);
      higher = omega (arith, below.higher, same below.point);
    }

-- where one event isn't below another that is normal, it is above it at some point
above-point : (a : ℕ) (e : Event) (b : ℕ) (f : Event) (choices : ℕ) → depth e ≤ choices → depth f ≤ choices → IsNormal f → is_below a e b f ≡ false → IsAbove a e b f choices
above-point a (leaf m) b f choices first second normal test =
    let low = lowest f choices second in
    record {
      point = low.point;
      long = low.long;
      higher = omega (arith, leb-false (a + m) (b + number f) test, low.is, least-normal f normal);
    }
above-point a (fork m l r) b f zero first second normal test = absurd (omega arith)
above-point a (fork m l r) b (leaf n) (suc choices) first second normal test =
    elim (and_cases (nat_le (a + m) (b + n)) (is_below (a + m) l b (leaf n) && is_below (a + m) r b (leaf n)) test) [
      | inl own ↦
          let low = lowest (leaf n) (suc choices) second in
          record {
            point = low.point;
            long = low.long;
            higher = omega (arith, leb-false (a + m) (b + n) own, low.is, number-le-level (fork m l r) low.point);
          }
      | inr halves ↦
          elim (and_cases (is_below (a + m) l b (leaf n)) (is_below (a + m) r b (leaf n)) halves) [
            | inl left ↦
                above_left a l b (leaf n) m r choices (leaf n) b (λ point. refl) (above-point (a + m) l b (leaf n) choices (omega arith) (omega arith) tt left)
            | inr right ↦
                above_right a r b (leaf n) m l choices (leaf n) b (λ point. refl) (above-point (a + m) r b (leaf n) choices (omega arith) (omega arith) tt right)
          ]
    ]
above-point a (fork m l r) b (fork n c d) (suc choices) first second normal test =
    elim (and_cases (nat_le (a + m) (b + n)) (is_below (a + m) l (b + n) c && is_below (a + m) r (b + n) d) test) [
      | inl own ↦
          let low = lowest (fork n c d) (suc choices) second in
          record {
            point = low.point;
            long = low.long;
            higher = omega (arith, leb-false (a + m) (b + n) own, low.is, least-normal (fork n c d) normal, number-le-level (fork m l r) low.point);
          }
      | inr halves ↦
          elim (and_cases (is_below (a + m) l (b + n) c) (is_below (a + m) r (b + n) d) halves) [
            | inl left ↦
                above_left a l (b + n) c m r choices (fork n c d) b (λ point. omega arith) (above-point (a + m) l (b + n) c choices (omega arith) (omega arith) normal.1 left)
            | inr right ↦
                above_right a r (b + n) d m l choices (fork n c d) b (λ point. omega arith) (above-point (a + m) r (b + n) d choices (omega arith) (omega arith) normal.2 right)
          ]
    ]

owned_if : (t : Bool) (m n : ℕ) → m < n → (t ≡ false → n ≡ m) → t ≡ true
owned_if true m n higher others = refl
owned_if false m n higher others = let same = others refl in absurd (omega arith)

-- an event that filling changes is raised by it
pub IsRaised-fill : (i : Id) (e : Event) → IsNormal e → depth e ≤ 256 → (fill i e ≡ e → ⊥) → IsRaised i e (fill i e)
IsRaised-fill i e normal shallow changed =
    let filled = IsFilled-fill i e shallow in
    let within : depth (fill i e) ≤ 256 = omega (arith, depth-fill i e) in
    let others_normal = normal-fill i e normal in
    elim (cases_Bool (is_leq (fill i e) e)) [
      | inl leq ↦
          absurd (changed (same_below (fill i e) e others_normal normal within shallow (leq-is-below (fill i e) e within shallow leq) (record { levels = filled.kept })))
      | inr higher ↦
          let at = above-point 0 (fill i e) 0 e 256 within shallow normal higher in
          record {
            kept = filled.kept;
            others = filled.others;
            point = at.point;
            long = at.long;
            owned = owned_if (has i at.point) (level e at.point) (level (fill i e) at.point) (omega (arith, at.higher)) (filled.others at.point at.long);
            higher = omega (arith, at.higher);
            bound = omega (arith, greatest-fill i e);
          }
    ]
