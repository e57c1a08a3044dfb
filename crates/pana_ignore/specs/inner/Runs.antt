-- How matching goes on from one wild unit to the next.
use Rattle.std.specs.Prelude.{◌≡◌, ℕ, suc, Bool, true, false, List, length, Option, option_copied}
use Rattle.pana_ignore.specs.declared.name.NameRun.{NameRun}
use Rattle.pana_ignore.specs.declared.name.NameRun.TheVariants.{Failed, Matched, AtStar}
use Rattle.pana_ignore.specs.declared.path.PathRun.{PathRun}
use Rattle.pana_ignore.specs.declared.path.PathRun.TheVariants.{NoPath, WholePath, AtFolders}
use Rattle.pana_ignore.specs.Match.{some_rest}
use Rattle.pana_ignore.specs.Pattern.{is_name_match, is_path_match}
use Rattle.pana_ignore.specs.inner.Splits.{splits}

-- ---- over the bytes of a name

-- whether what is left of the name matches what is left of the pieces
abbrev pub outcome : NameRun → Bool
outcome Failed = false
outcome Matched = true
outcome (AtStar pieces name) = some_rest (is_name_match pieces.now) name.now

-- how many pieces are left, and the star
abbrev pub left : NameRun → ℕ
left Failed = 0
left Matched = 0
left (AtStar pieces name) = suc (length pieces.now)

abbrev pub has_failed : NameRun → Bool
has_failed Failed = true
has_failed Matched = false
has_failed (AtStar pieces name) = false

-- where the run came to a star, a yes of some rest is a yes from there on
abbrev pub IsAsGood : Bool → NameRun → Type 0
IsAsGood some Failed = Unit {0}
IsAsGood some Matched = Unit {0}
IsAsGood some (AtStar pieces name) = some ≡ true → some_rest (is_name_match pieces.now) name.now ≡ true

-- ---- over the names of a path

-- the names of what is left of a path
abbrev pub names_left : Option (List ℕ) → List (List ℕ)
names_left rest = splits 47 rest

-- the same of PathRun
abbrev pub path_outcome : PathRun → Bool
path_outcome NoPath = false
path_outcome WholePath = true
path_outcome (AtFolders parts rest) = some_rest (is_path_match parts.now) (names_left (option_copied rest))

abbrev pub parts_left : PathRun → ℕ
parts_left NoPath = 0
parts_left WholePath = 0
parts_left (AtFolders parts rest) = suc (length parts.now)

abbrev pub has_no_path : PathRun → Bool
has_no_path NoPath = true
has_no_path WholePath = false
has_no_path (AtFolders parts rest) = false

abbrev pub IsAsGoodPath : Bool → PathRun → Type 0
IsAsGoodPath some NoPath = Unit {0}
IsAsGoodPath some WholePath = Unit {0}
IsAsGoodPath some (AtFolders parts rest) = some ≡ true → some_rest (is_path_match parts.now) (names_left (option_copied rest)) ≡ true
