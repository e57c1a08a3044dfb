use Rattle.std.proofs.Common.{◌≡◌, length, Some}
use Rattle.pana_text.proofs.Digits.{fitted_digits}
use Rattle.pana_text.proofs.bytes.digits_of.Given as goal

abbrev pub invariant-loop-rest : goal.invariant-loop-rest
invariant-loop-rest l = fitted_digits l.number l.rest ≡ fitted_digits (Some 0) l.fn.text

abbrev pub decreases-loop-rest : goal.decreases-loop-rest
decreases-loop-rest l = length l.rest
