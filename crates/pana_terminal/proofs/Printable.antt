-- Texts of blanks and visible characters of ASCII, which are shown as they are.
use Rattle.std.proofs.Common.{◌≡◌, ℕ, zero, suc, true, List, [], ◌∷◌, ap, refl, ◌∙◌, arith, flat_map}
use Rattle.std.specs.Int.{is_in_range}
use Rattle.std.specs.Str.{IsAscii}
use Rattle.std.proofs.lemmas.Bool.Decides.{nat_tests}
use Rattle.std.proofs.lemmas.Str.{chars-IsAscii, encode_ascii}
use Rattle.pana_terminal.specs.Shown.{PrintableStays, is_printable, shown_char}

-- each byte is one of ASCII
pub printable-IsAscii : (text : List ℕ) → is_printable text ≡ true → IsAscii text
printable-IsAscii [] all i = omega arith
printable-IsAscii (b ∷ text) all zero = grind (arith, nat_tests)
printable-IsAscii (b ∷ text) all (suc i) = printable-IsAscii text (grind (arith, nat_tests)) i

one_stays : (b : ℕ) → is_in_range 0x20 0x7E b ≡ true → shown_char b ≡ b ∷ []
one_stays b in_range = grind (arith, nat_tests, encode_ascii)

all_stay : (text : List ℕ) → is_printable text ≡ true → flat_map shown_char text ≡ text
all_stay [] all = refl
all_stay (b ∷ text) all = let rest = all_stay text (grind (arith, nat_tests)) in let own = one_stays b (grind (arith, nat_tests)) in grind arith

pub printable_stays : PrintableStays
printable_stays text all = ap (flat_map shown_char) (chars-IsAscii text (printable-IsAscii text all)) ∙ all_stay text all
