-- What the definition of the table implies.
use Rattle.std.specs.Prelude.{◌≡◌, ℕ, ◌^◌, ◌<◌, length, decimal}
use Rattle.pana_report.specs.Columns.{width}

-- a number takes as many columns of a terminal as it has digits
abbrev pub NumbersAreAsWideAsLong : Type 0
NumbersAreAsWideAsLong = (number : ℕ) → number < 2 ^ 64 → width (decimal number) ≡ length (decimal number)
