-- How many copies there are, as `status` says it.
use Rattle.std.specs.Prelude.{ℕ, ◌%◌, ◌==◌, not, ◌&&◌, Bool, true, false, List, [], ◌∷◌, ◌++◌, length, count_by, codes, decimal, encode_utf8, Option, Some, None, if◌then◌else◌}
use Rattle.pana_calls.specs.declared.hall_counts.HallCounts.{HallCounts}
use Rattle.pana_calls.specs.declared.standing.CopyState.{CopyState}
use Rattle.pana_calls.specs.declared.standing.CopyState.TheVariants.{Newest, Obsolete, Conflict}
use Rattle.pana_calls.specs.declared.standing.StatusRow.{StatusRow}

-- a digit, and a comma behind it where three, six or more others follow
abbrev pub digit_text : ℕ → ℕ → List ℕ
digit_text digit others = if not (others == 0) && (others % 3 == 0) then encode_utf8 digit ++ codes "," else encode_utf8 digit

-- digits with such commas
abbrev pub grouped : List ℕ → List ℕ
grouped [] = []
grouped (digit ∷ digits) = digit_text digit (length digits) ++ grouped digits

-- a number with such commas, as 1,204
abbrev pub number_text : ℕ → List ℕ
number_text number = grouped (decimal number)

-- so many things, as 1 copy or 1,204 copies
abbrev pub so_many : ℕ → List ℕ → List ℕ → List ℕ
so_many number one many = number_text number ++ (codes " " ++ (if number == 1 then one else many))

-- all copies, where they were asked for
abbrev pub total_text : Option HallCounts → List ℕ
total_text None = []
total_text (Some total) = so_many total.copies (codes "copy") (codes "copies") ++ (codes " on " ++ (so_many total.devices (codes "device") (codes "devices") ++ codes ": "))

-- how many of these copies are obsolete, and how many are in conflict
abbrev pub is_obsolete : CopyState → Bool
is_obsolete Newest = false
is_obsolete Obsolete = true
is_obsolete Conflict = false

abbrev pub is_in_conflict : CopyState → Bool
is_in_conflict Newest = false
is_in_conflict Obsolete = false
is_in_conflict Conflict = true

abbrev pub obsolete_of : List StatusRow → ℕ
obsolete_of rows = count_by (λ row. is_obsolete row.state) rows

abbrev pub in_conflict_of : List StatusRow → ℕ
in_conflict_of rows = count_by (λ row. is_in_conflict row.state) rows

-- the line, as: 1,204 copies on 3 devices: 3 obsolete, 1 in conflict
unfoldable pub counts_line : Option HallCounts → List StatusRow → List ℕ
counts_line total rows = total_text total ++ (number_text (obsolete_of rows) ++ (codes " obsolete, " ++ (number_text (in_conflict_of rows) ++ codes " in conflict\n")))
