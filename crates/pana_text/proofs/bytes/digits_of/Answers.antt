use Rattle.std.proofs.Common.{◌≡◌, sym, ap, ◌∙◌, ℕ, List, Option, arith}
use Rattle.pana_text.proofs.Digits.{fitted_digits, fitted_digits_start, stop_empty, stop_low, stop_high}
use Rattle.pana_text.proofs.bytes.digits_of.Goals as goal
use Rattle.pana_text.proofs.bytes.digits_of.Goals.{in_default, in_default-2, in_default-3}

pub returns : goal.returns
returns c =
    let stop : fitted_digits c.loop-rest.number c.loop-rest.rest.now ≡ (c.loop-rest.number, c.loop-rest.rest.now) =
    elim c.if-rest-lt1.branch [
      | in_default w ↦ search (stop_empty, stop_low, stop_high, arith)
      | in_default-2 w ↦ search (stop_empty, stop_low, stop_high, arith)
      | in_default-3 w ↦ search (stop_empty, stop_low, stop_high, arith)
    ] in
    let all : (c.loop-rest.number, c.loop-rest.rest.now) ≡ _ = sym stop ∙ (c.loop-rest.invariant ∙ fitted_digits_start c.args.text.now) in
    record { number = ap (λ (p : Option ℕ × List ℕ). p.0) all; rest = ap (λ (p : Option ℕ × List ℕ). p.1) all }
