-- What a text of patterns says, line by line.
use Rattle.std.specs.Prelude.{ℕ, ◌-◌, ◌==◌, nat_le, nat_lt, Bool, false, not, ◌&&◌, if◌then◌else◌, List, [], ◌∷◌, ◌++◌, length, take, drop, slice_index, flat_map, count_by, Option, None, Some, option_map, option_to_list}
use Rattle.std.specs.List.{list_any, list_all, position_from, starts_with}
use Rattle.pana_ignore.specs.declared.piece.Piece.{Piece}
use Rattle.pana_ignore.specs.declared.piece.Piece.TheVariants.{Star, Byte, Set}
use Rattle.pana_ignore.specs.declared.part.Part.{Part}
use Rattle.pana_ignore.specs.declared.part.Part.TheVariants.{Folders, Name}
use Rattle.pana_ignore.specs.declared.pattern.Pattern.{Pattern}
use Rattle.pana_ignore.specs.declared.patterns_fault.PatternsFault.{PatternsFault}
use Rattle.pana_ignore.specs.declared.patterns_fault.PatternsFault.TheVariants.{TooManyLines, LongLine}
use Rattle.pana_ignore.specs.Match.{split, is_nothing}
use Rattle.pana_ignore.specs.Pattern.{is_star}
use Rattle.pana_ignore.specs.Spelling.{pieces_of}

-- ---- parts

abbrev pub is_slash : Piece → Bool
is_slash Star = false
is_slash (Byte b) = b == 47
is_slash (Set s) = false

-- two stars or more, and nothing else
abbrev pub is_stars : List Piece → Bool
is_stars name = nat_le 2 (length name) && list_all is_star name

-- `**` before a slash: any folders
abbrev pub part_of : List Piece → Part
part_of name = if is_stars name then Folders else Name name

-- `**` at the end: some name behind any folders
abbrev pub last_parts : List Piece → List Part
last_parts name = if is_stars name then Folders ∷ Name (Star ∷ []) ∷ [] else Name name ∷ []

abbrev pub named_parts : List (List Piece) → List Part
named_parts [] = []
named_parts (name ∷ names) = if is_nothing names then last_parts name else part_of name ∷ named_parts names

-- the parts between the slashes; where the pattern isn't anchored to the root, behind any folders
abbrev pub parts_of : Bool → List Piece → List Part
parts_of is_anchored pieces = (if is_anchored then [] else Folders ∷ []) ++ named_parts (split is_slash pieces)

-- ---- patterns

-- whether the byte is the first of a text, and the text without it
abbrev pub begins : ℕ → List ℕ → Bool
begins b [] = false
begins b (c ∷ rest) = c == b

abbrev pub without_first : ℕ → List ℕ → List ℕ
without_first b text = if begins b text then drop 1 text else text

-- whether the byte, which isn't 0, is the last of a text, and the text without it
abbrev pub ends : ℕ → List ℕ → Bool
ends b text = slice_index text (length text - 1) == b

abbrev pub without_last : ℕ → List ℕ → List ℕ
without_last b text = if ends b text then take (length text - 1) text else text

-- the pattern that a body spells, the text without its `!` and without a `/` at its end: a slash in it anchors it
abbrev pub pattern_with : Bool → Bool → List ℕ → Option Pattern
pattern_with includes folders_only body =
    if is_nothing body then None
    else option_map (λ pieces. record { includes = includes; folders_only = folders_only; parts = parts_of (list_any (λ b. b == 47) body) pieces }) (pieces_of (without_first 47 body))

-- the pattern that a text spells, if it does: `!` before it includes paths again, and `/` behind it is for folders only
abbrev pub pattern_of : List ℕ → Option Pattern
pattern_of text = pattern_with (begins 33 text) (ends 47 (without_first 33 text)) (without_last 47 (without_first 33 text))

-- ---- lines

abbrev pub are_spaces : List ℕ → Bool
are_spaces text = list_all (λ b. b == 32) text

-- a text without the spaces at its end that no backslash quotes; whether one before it quotes its first byte
abbrev pub trimmed : Bool → List ℕ → List ℕ
trimmed is_quoted [] = []
trimmed is_quoted (b ∷ rest) =
    if not is_quoted && are_spaces (b ∷ rest) then [] else b ∷ trimmed (not is_quoted && (b == 92)) rest

-- the pattern of a line: none of a comment. A carriage return at its end doesn't count, nor do spaces
abbrev pub pattern_of_line : List ℕ → Option Pattern
pattern_of_line line = if begins 35 line then None else pattern_of (trimmed false (without_last 13 line))

-- a text without the byte order mark of UTF-8 at its head
abbrev pub without_mark : List ℕ → List ℕ
without_mark text = if starts_with (λ a b. a == b) text (0xEF ∷ 0xBB ∷ 0xBF ∷ []) then drop 3 text else text

abbrev pub lines_of : List ℕ → List (List ℕ)
lines_of text = split (λ b. b == 10) (without_mark text)

-- the patterns of a text, in their order
abbrev pub patterns_of : List ℕ → List Pattern
patterns_of text = flat_map (λ line. option_to_list (pattern_of_line line)) (lines_of text)

-- ---- limits

-- the number of the first line that is too long, from this number on
abbrev pub long_line : ℕ → List (List ℕ) → Option ℕ
long_line number lines = position_from (λ line. nat_lt 4096 (length line)) number lines

-- what is wrong with a text: it has too many lines, or else one is too long
abbrev pub fault_of : List ℕ → Option PatternsFault
fault_of text = if nat_lt 10000 (count_by (λ b. b == 10) text) then Some TooManyLines else option_map LongLine (long_line 1 (lines_of text))
