-- The widths of numbers.
use Rattle.std.proofs.Common.{◌≡◌, ℕ, true, false, List, [], ◌∷◌, ap, refl, ◌∙◌, arith}
use Rattle.std.specs.Prelude.{decimal}
use Rattle.std.specs.Int.{is_in_range}
use Rattle.std.specs.List.{list_all}
use Rattle.std.specs.Str.Parse.{AllDigits}
use Rattle.std.proofs.lemmas.Bool.Decides.{nat_tests}
use Rattle.std.proofs.lemmas.Fmt.{IsAscii-decimal, decimal_is_IsNumeral}
use Rattle.std.proofs.lemmas.Str.{chars-IsAscii}
use Rattle.std.proofs.lemmas.Str.Parse.{digit_from_value}
use Rattle.unicode_width.specs.Width.{str_width}
use Rattle.unicode_width.proofs.Rules.{str_width-printable}
use Rattle.pana_report.specs.laws.Widths.{NumbersAreAsWideAsLong}

-- digits are printable
are_printable : (digits : List ℕ) → AllDigits 10 digits → list_all (is_in_range 0x20 0x7E) digits ≡ true
are_printable [] all = refl
are_printable (digit ∷ digits) all = let own = digit_from_value digit all.0 in let others = are_printable digits all.1 in grind (arith, nat_tests)

pub numbers_are_as_wide_as_long : NumbersAreAsWideAsLong
numbers_are_as_wide_as_long number small =
    ap (str_width false) (chars-IsAscii (decimal number) (IsAscii-decimal number small))
    ∙ str_width-printable false (decimal number) (are_printable (decimal number) (decimal_is_IsNumeral number small).0.1)
