-- The lines that a file stands for.
use Rattle.std.specs.Prelude.{◌≡◌, ◌⊎◌, ◌<◌, ◌≤◌, ◌+◌, ◌^◌, ℕ, nat_le, Bool, true, false, ◌&&◌, ◌||◌, List, [], ◌∷◌, ◌++◌, length, take, drop, if◌then◌else◌, ◌==◌, nat_eq, not, codes}
use Rattle.std.specs.List.{list_any, starts_with}
use Rattle.pana_log.specs.declared.file_kind.FileKind.{FileKind}
use Rattle.pana_log.specs.declared.file_kind.FileKind.TheVariants.{Journal, Unended, Foreign}

-- a line counts only if it begins with `{`: its gate
abbrev pub opens : List ℕ → Bool
opens [] = false
opens (b ∷ bs) = b == 123

-- the lines up to the first whose gate is closed or that has no newline, where the first has begun with `begun`
abbrev pub read_on : List ℕ → List ℕ → List (List ℕ)
read_on begun [] = []
read_on begun (b ∷ bs) = if b == 10 then (if opens begun then begun ∷ read_on [] bs else []) else read_on (begun ++ b ∷ []) bs

-- the lines that a file stands for, whatever a crash made of it
abbrev pub recovered : List ℕ → List (List ℕ)
recovered file = read_on [] file

-- the lines, each with a newline
abbrev pub text_of : List (List ℕ) → List ℕ
text_of [] = []
text_of (l ∷ ls) = l ++ 10 ∷ text_of ls

-- the lines and a closed gate
abbrev pub closed : List (List ℕ) → List ℕ
closed lines = text_of lines ++ 0 ∷ []

-- the lines and a closed gate, behind it the text but for its first byte, and one more closed gate
abbrev pub staged : List (List ℕ) → List ℕ → List ℕ
staged lines text = text_of lines ++ (0 ∷ (drop 1 text ++ 0 ∷ []))

-- how many bytes these are, a closed gate at their head not counted
abbrev pub ungated : List ℕ → ℕ
ungated [] = 0
ungated (b ∷ bs) = if b == 0 then length bs else length bs + 1

-- how many bytes stand behind the lines of a file, a closed gate not counted
abbrev pub torn_length : List ℕ → ℕ
torn_length file = ungated (drop (length (text_of (recovered file))) file)

-- the first line of a new journal's file: it says no entry
abbrev pub header : List ℕ
header = codes "{\"entries\":[],\"journal\":1}"

-- each byte is NUL or the one at its place in the text
abbrev pub is_begun : List ℕ → List ℕ → Bool
is_begun [] text = true
is_begun (b ∷ bs) [] = false
is_begun (b ∷ bs) (t ∷ text) = ((b == 0) || (b == t)) && is_begun bs text

-- what stands in a file whose header isn't there yet: nothing, or some of the bytes that are staged for it
abbrev pub is_new : List ℕ → Bool
is_new file = is_begun file (0 ∷ (drop 1 header ++ 10 ∷ 0 ∷ []))

-- how each line of a journal begins
abbrev pub entries_begin : List ℕ
entries_begin = codes "{\"entries\":["

-- a line begins so, but for the first
abbrev pub has_entries : List ℕ → Bool
has_entries [] = false
has_entries (b ∷ bs) = ((b == 10) && starts_with nat_eq bs entries_begin) || has_entries bs

-- what a commit in progress can leave behind the lines: nothing, or a closed gate and at most the bytes of the longest
-- text, and no line of entries among them
abbrev pub ends_journal : List ℕ → Bool
ends_journal [] = true
ends_journal (b ∷ bs) = (b == 0) && (nat_le (length bs) 1048577 && not (has_entries bs))

-- a line of entries that has begun, and has no newline
abbrev pub is_unended : List ℕ → Bool
is_unended [] = false
is_unended (b ∷ bs) = (starts_with nat_eq (b ∷ bs) entries_begin || starts_with nat_eq entries_begin (b ∷ bs)) && not (list_any (λ x. x == 10) (b ∷ bs))

-- what a file isn't where it isn't a journal: a line is cut, or it is something else
abbrev pub other_kind : List ℕ → FileKind
other_kind behind = if is_unended behind then Unended else Foreign

-- what a file without a line is: one that is still being made, or none of a journal
abbrev pub kind_new : List ℕ → FileKind
kind_new file = if is_new file then Journal else other_kind file

-- what a file is, by what stands behind its lines
abbrev pub kind_behind : List ℕ → FileKind
kind_behind behind = if ends_journal behind then Journal else other_kind behind

-- what a file with these lines is
abbrev pub kind_with : List ℕ → List (List ℕ) → FileKind
kind_with file [] = kind_new file
kind_with file (l ∷ ls) = kind_behind (drop (length (text_of (l ∷ ls))) file)

-- what a file is
abbrev pub kind_of : List ℕ → FileKind
kind_of file = kind_with file (recovered file)

-- no newline in it
abbrev pub HasNoBreak : List ℕ → Type 0
HasNoBreak [] = Unit {0}
HasNoBreak (b ∷ bs) = ((b == 10) ≡ false) × HasNoBreak bs

-- lines that a journal can hold
abbrev pub AreLines : List (List ℕ) → Type 0
AreLines [] = Unit {0}
AreLines (l ∷ ls) = (opens l ≡ true) × HasNoBreak l × AreLines ls

-- the file begins so
abbrev pub Begins : List ℕ → List ℕ → Type 0
Begins prefix file = take (length prefix) file ≡ prefix

-- a text of whole lines, one at least
pub record IsWhole (text : List ℕ) : Type 0 where
  pub some : 0 < length text
  pub same : text_of (recovered text) ≡ text

-- the file stands for these lines, with more or without them
abbrev pub IsBeforeOrAfter : List (List ℕ) → List (List ℕ) → List ℕ → Type 0
IsBeforeOrAfter lines more file = (recovered file ≡ lines) ⊎ (recovered file ≡ lines ++ more)

-- the lines aren't too long for more, and the text isn't longer than a line of a dump with its newline
abbrev pub HasRoom : ℕ → List ℕ → Type 0
HasRoom end text = (end ≤ 2 ^ 60) × (length text ≤ 1048577)

-- the lines aren't too long for more, and there may be so many bytes behind their gate
abbrev pub HasRoomBehind : ℕ → ℕ → Type 0
HasRoomBehind end count = (end ≤ 2 ^ 60) × (count ≤ 1048577)
