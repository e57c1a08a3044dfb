-- What a pattern is, and which paths it matches.
use Rattle.std.specs.Prelude.{ℕ, ◌==◌, nat_le, Bool, true, false, not, ◌&&◌, ◌||◌, if◌then◌else◌, List, [], ◌∷◌, ◌++◌, filter}
use Rattle.std.specs.List.{list_any}
use Rattle.std.specs.Int.{is_in_range}
use Rattle.pana_ignore.specs.declared.byte_class.ByteClass.{ByteClass}
use Rattle.pana_ignore.specs.declared.byte_class.ByteClass.TheVariants.{Alnum, Alpha, Blank, Cntrl, Digit, Graph, Lower, Print, Punct, Space, Upper, Xdigit}
use Rattle.pana_ignore.specs.declared.piece.SetItem.{SetItem}
use Rattle.pana_ignore.specs.declared.piece.SetItem.TheVariants.{Range, Class}
use Rattle.pana_ignore.specs.declared.piece.Piece.{Piece}
use Rattle.pana_ignore.specs.declared.piece.Piece.TheVariants.{Star, Byte, Set}
use Rattle.pana_ignore.specs.declared.part.Part.{Part}
use Rattle.pana_ignore.specs.declared.part.Part.TheVariants.{Folders, Name}
use Rattle.pana_ignore.specs.declared.pattern.Pattern.{Pattern}
use Rattle.pana_ignore.specs.Match.{is_match, split, is_nothing}

-- ---- bytes

abbrev pub is_lower : ℕ → Bool
is_lower b = is_in_range 97 122 b

abbrev pub is_upper : ℕ → Bool
is_upper b = is_in_range 65 90 b

abbrev pub is_digit : ℕ → Bool
is_digit b = is_in_range 48 57 b

abbrev pub is_alnum : ℕ → Bool
is_alnum b = is_digit b || is_upper b || is_lower b

-- what a class of bytes has, as the C locale has it; but of white space no vertical tab and no form feed
abbrev pub class_has : ByteClass → ℕ → Bool
class_has Alnum b = is_alnum b
class_has Alpha b = is_upper b || is_lower b
class_has Blank b = (b == 9) || (b == 32)
class_has Cntrl b = nat_le b 31 || (b == 127)
class_has Digit b = is_digit b
class_has Graph b = is_in_range 33 126 b
class_has Lower b = is_lower b
class_has Print b = is_in_range 32 126 b
class_has Punct b = is_in_range 33 126 b && not (is_alnum b)
class_has Space b = (b == 9) || (b == 10) || (b == 13) || (b == 32)
class_has Upper b = is_upper b
class_has Xdigit b = is_digit b || is_in_range 65 70 b || is_in_range 97 102 b

-- what an item of a set has
abbrev pub item_has : SetItem → ℕ → Bool
item_has (Range first last) b = is_in_range first last b
item_has (Class class) b = class_has class b

-- ---- names

abbrev pub is_star : Piece → Bool
is_star Star = true
is_star (Byte wanted) = false
is_star (Set s) = false

-- one byte of a name matches a piece
abbrev pub fits_byte : Piece → ℕ → Bool
fits_byte Star b = false
fits_byte (Byte wanted) b = b == wanted
fits_byte (Set s) b = if s.is_negated then not (list_any (λ item. item_has item b) s.items) else list_any (λ item. item_has item b) s.items

-- a name matches pieces: a star stands for any number of bytes, each other piece for one
abbrev pub is_name_match : List Piece → List ℕ → Bool
is_name_match pieces name = is_match is_star fits_byte pieces name

-- ---- paths

abbrev pub is_folders : Part → Bool
is_folders Folders = true
is_folders (Name pieces) = false

-- one name of a path matches a part
abbrev pub fits_name : Part → List ℕ → Bool
fits_name Folders name = false
fits_name (Name pieces) name = is_name_match pieces name

-- names in a row match parts: `**` stands for any number of folders, each other part for one name
abbrev pub is_path_match : List Part → List (List ℕ) → Bool
is_path_match parts names = is_match is_folders fits_name parts names

-- the names between the slashes of a path
abbrev pub names_of : List ℕ → List (List ℕ)
names_of path = split (λ b. b == 47) path

-- a pattern says something of a path: it matches all its names, and is meant for what is there
abbrev pub applies : List ℕ → Bool → Pattern → Bool
applies path is_folder pattern = (is_folder || not pattern.folders_only) && is_path_match pattern.parts (names_of path)

-- ---- what patterns say

-- the last of those that apply decides, where one does: whether it ignores the path
abbrev pub decided : List Pattern → Bool
decided [] = false
decided (pattern ∷ patterns) = if is_nothing patterns then not pattern.includes else decided patterns

-- what the patterns say of a path, where no folder above it is ignored
abbrev pub ignores_here : List Pattern → List ℕ → Bool → Bool
ignores_here patterns path is_folder = decided (filter (applies path is_folder) patterns)

-- what stands before each slash of a path, from one that begins with `above`
abbrev pub folders_from : List ℕ → List ℕ → List (List ℕ)
folders_from above [] = []
folders_from above (b ∷ rest) = if b == 47 then above ∷ folders_from (above ++ b ∷ []) rest else folders_from (above ++ b ∷ []) rest

-- the folders above a path
abbrev pub folders_above : List ℕ → List (List ℕ)
folders_above path = folders_from [] path

-- a path is ignored where the patterns say so of it, or of a folder above it
abbrev pub is_ignored : List Pattern → List ℕ → Bool → Bool
is_ignored patterns path is_folder =
    list_any (λ folder. ignores_here patterns folder true) (folders_above path) || ignores_here patterns path is_folder
