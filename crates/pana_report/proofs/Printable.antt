-- Texts whose bytes are printable: they take a column for each byte, and fit as they are where these do.
use Rattle.std.proofs.Common.{◌≡◌, ℕ, ◌+◌, ◌≤◌, true, false, List, ◌++◌, ap, length, length-append, arith, refl, ◌∙◌, Option, Some, None, IfSome}
use Rattle.std.specs.Prelude.{codes}
use Rattle.std.proofs.lemmas.Str.{chars-IsAscii}
use Rattle.std.proofs.lemmas.List.Folds.{list_all-append}
use Rattle.std.proofs.lemmas.Bool.Decides.{nat_tests}
use Rattle.unicode_width.specs.Width.{str_width}
use Rattle.unicode_width.proofs.Rules.{str_width-printable}
use Rattle.pana_copies.specs.declared.place.Place.{Place}
use Rattle.pana_terminal.specs.Shown.{is_printable}
use Rattle.pana_terminal.proofs.Printable.{printable-IsAscii, printable_stays}
use Rattle.pana_report.specs.Columns.{place_text, width}
use Rattle.pana_report.specs.Fitted.{fitted}

-- a column for each byte
pub printable_width : (text : List ℕ) → is_printable text ≡ true → width text ≡ length text
printable_width text all = ap (str_width false) (chars-IsAscii text (printable-IsAscii text all)) ∙ str_width-printable false text all

-- a place's text takes the bytes of its device and of its path, and one for what stands between
pub place_printable : (place : Place) → is_printable place.device ≡ true → is_printable place.path ≡ true
    → width (place_text place) ≡ length place.device + 1 + length place.path
place_printable place device path =
    let whole = place.device ++ (codes ":" ++ place.path) in
    let all : is_printable whole ≡ true = list_all-append _ place.device (codes ":" ++ place.path) ∙ grind (arith, nat_tests) in
    ap width (printable_stays whole all) ∙ printable_width whole all ∙ grind (arith, length-append)

-- a text that takes at most so many columns stays as it is
pub fitted_within : (most : Option ℕ) (text : List ℕ) → IfSome most (λ columns. width text ≤ columns) → fitted most text ≡ text
unfolding fitted
fitted_within None text within = refl
fitted_within (Some most) text within = grind (arith, nat_tests)
