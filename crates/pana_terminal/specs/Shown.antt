-- A text as a terminal may show it.
use Rattle.std.specs.Prelude.{◌≡◌, ℕ, ◌==◌, ◌&&◌, ◌||◌, Bool, true, false, not, if◌then◌else◌, List, ◌++◌, codes, chars, encode_utf8, flat_map}
use Rattle.std.specs.Int.{is_in_range}
use Rattle.std.specs.Fmt.{digits}
use Rattle.std.specs.List.{list_all}

-- a control character, but the newline, which ends a line there too
abbrev pub is_control : ℕ → Bool
is_control c = not (c == 0x0A) && (is_in_range 0x00 0x1F c || is_in_range 0x7F 0x9F c)

-- Unicode's separators of lines and of paragraphs
abbrev pub is_separator : ℕ → Bool
is_separator c = is_in_range 0x2028 0x2029 c

-- Unicode's Bidi_Control: what turns the direction of writing
abbrev pub is_bidi_control : ℕ → Bool
is_bidi_control c = (c == 0x061C) || is_in_range 0x200E 0x200F c || is_in_range 0x202A 0x202E c || is_in_range 0x2066 0x2069 c

-- what a terminal isn't to get as it is
abbrev pub is_hidden : ℕ → Bool
is_hidden c = is_control c || is_separator c || is_bidi_control c

-- the code of a character, as \u{202e}
abbrev pub code_text : ℕ → List ℕ
code_text c = codes "\\u{" ++ digits 16 false c ++ codes "}"

-- a character, or its code where it is hidden
abbrev pub shown_char : ℕ → List ℕ
shown_char c = if is_hidden c then code_text c else encode_utf8 c

-- each character of a text in its turn
abbrev pub shown : List ℕ → List ℕ
shown text = flat_map shown_char (chars text)

-- whether each byte of a text is a blank or a visible character of ASCII
abbrev pub is_printable : List ℕ → Bool
is_printable text = list_all (is_in_range 0x20 0x7E) text

-- such a text stands as it is
abbrev pub PrintableStays : Type 0
PrintableStays = (text : List ℕ) → is_printable text ≡ true → shown text ≡ text
