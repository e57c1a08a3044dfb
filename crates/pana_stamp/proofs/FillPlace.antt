-- Filling for the id of one place.
use Rattle.std.proofs.Common.{◌≡◌, ℕ, suc, ◌/◌, ◌%◌, ◌^◌, ◌<◌, ◌≤◌, ◌==◌, max, if◌then◌else◌, Bool, true, false, refl, sym, ap, subst, ◌∙◌, arith}
use Rattle.pana_id.specs.Id.{Id, zero_id, one_id, pair, is_one}
use Rattle.pana_id.specs.Node.{single}
use Rattle.pana_id.proofs.Numbered.{left_single, right_single, is_one-single}
use Rattle.pana_event.specs.Event.{Event, leaf, fork, greatest, norm}
use Rattle.pana_event.proofs.Levels.{least-le-greatest}
use Rattle.pana_stamp.specs.Fill.{fill}
use Rattle.pana_stamp.specs.inner.Renewed.{filled_beside}
use Rattle.pana_stamp.proofs.Fills.{greatest-fill}

filled_left : (i : Id) (n : ℕ) (l r f : Event) → f ≡ filled_beside i l r → norm n f r ≡ fill (pair i zero_id) (fork n l r)
filled_left zero_id n l r f is = ap (λ f. norm n f r) is
filled_left one_id n l r f is = ap (λ f. norm n f r) is
filled_left (pair a b) n l r f is = ap (λ f. norm n f r) is

filled_right : (i : Id) (n : ℕ) (l r f : Event) → f ≡ filled_beside i r l → norm n l f ≡ fill (pair zero_id i) (fork n l r)
filled_right zero_id n l r f is = ap (norm n l) is
filled_right one_id n l r f is = ap (norm n l) is
filled_right (pair a b) n l r f is = ap (norm n l) is

pub left_filled : (n base : ℕ) (l r f : Event) → n < 2 ^ 64 → n % 2 ≡ 0 → f ≡ filled_beside (single 64 (n / 2)) l r → norm base f r ≡ fill (single 64 (suc n)) (fork base l r)
left_filled n base l r f few even is =
    subst (λ i. norm base f r ≡ fill i (fork base l r)) (sym (left_single n few even)) (filled_left (single 64 (n / 2)) base l r f is)

pub right_filled : (n base : ℕ) (l r f : Event) → n < 2 ^ 64 → (n % 2 ≡ 0 → ⊥) → f ≡ filled_beside (single 64 (n / 2)) r l → norm base l f ≡ fill (single 64 (suc n)) (fork base l r)
right_filled n base l r f few odd is =
    subst (λ i. norm base l f ≡ fill i (fork base l r)) (sym (right_single n few odd)) (filled_right (single 64 (n / 2)) base l r f is)

other_beside : (i : Id) (e other : Event) → is_one i ≡ false → fill i e ≡ filled_beside i e other
other_beside zero_id e other not_one = refl
other_beside one_id e other not_one = absurd (cc)
other_beside (pair a b) e other not_one = refl

pub place_beside : (n : ℕ) (e other : Event) → fill (single 64 (suc n)) e ≡ filled_beside (single 64 (suc n)) e other
place_beside n e other = other_beside (single 64 (suc n)) e other (is_one-single n)

pub greatest-beside : (i : Id) (e other : Event) → greatest (filled_beside i e other) ≤ max (greatest e) (greatest other)
greatest-beside zero_id e other = omega (arith, greatest-fill zero_id e)
greatest-beside one_id e other = omega (arith, least-le-greatest other)
greatest-beside (pair a b) e other = omega (arith, greatest-fill (pair a b) e)

-- a leaf is as it was filled
pub leaf_filled : (n : ℕ) (e : Event) (m : ℕ) → e ≡ leaf m → e ≡ fill (single 64 (suc n)) e
leaf_filled n e m is = is ∙ sym (ap (fill (single 64 (suc n))) is ∙ by_parity (n % 2 == 0) (single 63 (n / 2)))
  where
    by_parity : (b : Bool) (half : Id) → fill (if b then pair half zero_id else pair zero_id half) (leaf m) ≡ leaf m
    by_parity true half = refl
    by_parity false half = refl
