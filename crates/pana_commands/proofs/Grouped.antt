-- Digits with commas between them.
use Rattle.std.proofs.Common.{◌≡◌, ℕ, List, ◌∷◌, ◌++◌, Option, refl, sym, append_assoc, length}
use Rattle.std.specs.Prelude.{codes}
use Rattle.pana_calls.specs.declared.hall_counts.HallCounts.{HallCounts}
use Rattle.pana_calls.specs.declared.standing.StatusRow.{StatusRow}
use Rattle.pana_commands.specs.Counts.{counts_line, digit_text, grouped, in_conflict_of, number_text, obsolete_of, total_text}

-- a digit behind a text, and then the others
pub grouped_more : (text : List ℕ) (digit : ℕ) (others : List ℕ) → text ++ grouped (digit ∷ others) ≡ text ++ digit_text digit (length others) ++ grouped others
grouped_more text digit others = sym (append_assoc text (digit_text digit (length others)) (grouped others))

-- the line of counts, piece by piece
pub counts_pieces : (total : Option HallCounts) (rows : List StatusRow) (before obsolete conflicts : List ℕ)
    → before ≡ total_text total → obsolete ≡ number_text (obsolete_of rows) → conflicts ≡ number_text (in_conflict_of rows)
    → before ++ (obsolete ++ (codes " obsolete, " ++ (conflicts ++ codes " in conflict\n"))) ≡ counts_line total rows
unfolding counts_line
counts_pieces total rows before obsolete conflicts first second third = rw (first, second, third) refl
