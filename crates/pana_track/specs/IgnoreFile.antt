-- The patterns of a root.
use Rattle.std.specs.Prelude.{◌≡◌, ◌⊎◌, ℕ, ◌<◌, nat_lt, nat_le, Bool, true, false, not, ◌&&◌, List, [], ◌∷◌, ◌++◌, length, codes, cond, flat_map, Option, Some, None, option_and_then, option_to_list, Result, Ok, Err}
use Rattle.std.specs.List.{list_any}
use Rattle.std.specs.Str.{bytes_eq}
use Rattle.pana_ignore.specs.declared.pattern.Pattern.{Pattern}
use Rattle.pana_ignore.specs.declared.patterns_fault.PatternsFault.{PatternsFault}
use Rattle.pana_ignore.specs.Reading.{fault_of, pattern_of, patterns_of}
use Rattle.pana_scan.specs.declared.entry.Entry.{Entry}
use Rattle.pana_scan.specs.declared.entry.Entry.TheVariants.{Named, NotText}
use Rattle.pana_scan.specs.declared.entry.Kind.TheVariants.{File, Folder, Other, Gone}
use Rattle.pana_scan.specs.declared.scan_fault.ScanFault.{ScanFault}
use Rattle.pana_scan.specs.declared.scan_fault.ScanFault.TheVariants as scan
use Rattle.pana_scan.specs.Disk.{Content, Names, Tree}
use Rattle.pana_scan.specs.Order.{Path}
use Rattle.pana_track.specs.declared.read_fault.ReadFault.{ReadFault}
use Rattle.pana_track.specs.declared.read_fault.ReadFault.TheVariants.{Scan, IgnoreFile}
use Rattle.pana_track.specs.Fault.{patterns_read_fault}

-- the name of the file
abbrev pub ignore_file : List ℕ
ignore_file = codes ".panadignore"

-- whether an entry of the root is the file: a regular one of this name
abbrev pub is_ignore_file : Entry → Bool
is_ignore_file (Named name File) = bytes_eq name ignore_file
is_ignore_file (Named name Folder) = false
is_ignore_file (Named name Gone) = false
is_ignore_file (Named name Other) = false
is_ignore_file NotText = false

-- the bytes of a file that can be read, has at most 1,048,576 of them, and comes to its end in as many reads
abbrev pub text_of : Content → Option (List ℕ)
text_of file = cond (not file.fails && nat_lt file.reads 1048577 && nat_le (length file.bytes) 1048576) (Some file.bytes) None

-- the text of the root's file
abbrev pub text_in : Tree → Path → Option (List ℕ)
text_in tree root = option_and_then text_of (tree.content (root ++ 47 ∷ ignore_file))

abbrev pub has_ignore_file : Tree → Path → Bool
has_ignore_file tree root = list_any is_ignore_file (tree.names root).entries

-- why a list wasn't searched: it fails, or is too long; of memory nothing is known
abbrev pub IsUnlisted : Names → ScanFault → Type 0
IsUnlisted names scan.Folder = names.fails ≡ true
IsUnlisted names scan.TooMany = 1000000 < length names.entries
IsUnlisted names scan.TooNested = ⊥
IsUnlisted names scan.OutOfMemory = Unit {0}

-- what a text of patterns comes to: they are taken, or there is a fault in it, or memory runs out
abbrev pub TakesText : List ℕ → Result (List Pattern) ReadFault → Type 0
TakesText text (Ok patterns) = (fault_of text ≡ None) × (patterns ≡ patterns_of text)
TakesText text (Err fault) = (fault ≡ Scan scan.OutOfMemory) ⊎ ((found : PatternsFault) × (fault_of text ≡ Some found) × (fault ≡ patterns_read_fault found))

-- the patterns of a root's file: none where there is no file; else those of its text, where it can be read
abbrev pub ReadsPatterns : Tree → Path → Result (List Pattern) ReadFault → Type 0
ReadsPatterns tree root result =
    ((fault : ScanFault) × IsUnlisted (tree.names root) fault × (result ≡ Err (Scan fault)))
    ⊎ ((has_ignore_file tree root ≡ false) × (result ≡ Ok []))
    ⊎ ((has_ignore_file tree root ≡ true) × (text_in tree root ≡ None) × (result ≡ Err IgnoreFile))
    ⊎ ((text : List ℕ) × (has_ignore_file tree root ≡ true) × (text_in tree root ≡ Some text) × TakesText text result)

-- the patterns that texts spell, in their order
abbrev pub spelled : List (List ℕ) → List Pattern
spelled texts = flat_map (λ text. option_to_list (pattern_of text)) texts

-- these stand behind those of the file, so they decide first
abbrev pub IsBehind : List (List ℕ) → List Pattern → Type 0
IsBehind more patterns = (file : List Pattern) × (patterns ≡ file ++ spelled more)

-- all patterns of a root: those of its file, and those that are given beside
abbrev pub HasPatterns : Tree → Path → List (List ℕ) → Result (List Pattern) ReadFault → Type 0
HasPatterns tree root more (Ok patterns) = (file : List Pattern) × ReadsPatterns tree root (Ok file) × (patterns ≡ file ++ spelled more)
HasPatterns tree root more (Err fault) = (fault ≡ Scan scan.OutOfMemory) ⊎ ReadsPatterns tree root (Err fault)
