-- Rows as lines of text.
use Rattle.std.specs.Prelude.{ℕ, Bool, true, false, List, ◌++◌, codes}
use Rattle.std.specs.List.{flat_map}
use Rattle.pana_history.specs.declared.mark.Mark.{Mark}
use Rattle.pana_history.specs.declared.mark.Sign.{Sign}
use Rattle.pana_history.specs.declared.mark.Sign.TheVariants.{Named, Plain, Struck, Touched}
use Rattle.pana_history.specs.Row.{Drawn}

-- a mark as a character, and a blank
abbrev pub sign_text : Sign → Bool → List ℕ
sign_text Named lives = codes "o "
sign_text Touched lives = codes "* "
sign_text Struck lives = codes "x "
sign_text Plain true = codes "| "
sign_text Plain false = codes "  "

abbrev pub mark_text : Mark → List ℕ
mark_text mark = sign_text mark.sign mark.lives_before

-- the line of a row: a character for each lane, and its text
abbrev pub row_line : Drawn → List ℕ
row_line row = flat_map mark_text row.marks ++ (codes " " ++ (row.text ++ codes "\n"))

abbrev pub graph_text : List Drawn → List ℕ
graph_text rows = flat_map row_line rows
