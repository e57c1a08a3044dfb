-- What a run up to a star says of all rests of a name.
use Rattle.std.specs.Prelude.{Bool, true, false, List, ℕ}
use Rattle.std.proofs.Common.{◌≡◌, refl, sym}
use Rattle.std.proofs.lemmas.Bool.{both_ways}
use Rattle.pana_ignore.specs.declared.name.NameRun.{NameRun}
use Rattle.pana_ignore.specs.declared.name.NameRun.TheVariants.{Failed, Matched, AtStar}
use Rattle.pana_ignore.specs.Match.{some_rest}
use Rattle.pana_ignore.specs.Pattern.{is_name_match}
use Rattle.pana_ignore.specs.inner.Runs.{outcome, has_failed, IsAsGood}
use Rattle.pana_ignore.proofs.Matches.{some_rest_here, some_rest_first}

pub outcome-first : (test : List ℕ → Bool) (name : List ℕ) (run : NameRun) → outcome run ≡ test name → IsAsGood (some_rest test name) run
    → has_failed run ≡ false → outcome run ≡ some_rest test name
outcome-first test name Failed same later met = absurd (both_ways true met refl)
outcome-first test name Matched same later met = sym (some_rest_here test name (sym same))
outcome-first test name (AtStar pieces rest) same later met = sym (some_rest_first test name (some_rest (is_name_match pieces.now) rest.now) same later)
