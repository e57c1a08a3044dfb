-- What a run up to a star says of all rests of a path.
use Rattle.std.specs.Prelude.{Bool, true, false, List, ℕ, option_copied}
use Rattle.std.proofs.Common.{◌≡◌, refl, sym}
use Rattle.std.proofs.lemmas.Bool.{both_ways}
use Rattle.pana_ignore.specs.declared.path.PathRun.{PathRun}
use Rattle.pana_ignore.specs.declared.path.PathRun.TheVariants.{NoPath, WholePath, AtFolders}
use Rattle.pana_ignore.specs.Match.{some_rest}
use Rattle.pana_ignore.specs.Pattern.{is_path_match}
use Rattle.pana_ignore.specs.inner.Runs.{path_outcome, has_no_path, IsAsGoodPath, names_left}
use Rattle.pana_ignore.proofs.Matches.{some_rest_here, some_rest_first}

pub outcome-first : (test : List (List ℕ) → Bool) (name : List (List ℕ)) (run : PathRun) → path_outcome run ≡ test name → IsAsGoodPath (some_rest test name) run
    → has_no_path run ≡ false → path_outcome run ≡ some_rest test name
outcome-first test name NoPath same later met = absurd (both_ways true met refl)
outcome-first test name WholePath same later met = sym (some_rest_here test name (sym same))
outcome-first test name (AtFolders parts rest) same later met = sym (some_rest_first test name (some_rest (is_path_match parts.now) (names_left (option_copied rest))) same later)
