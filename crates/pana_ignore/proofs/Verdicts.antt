-- The last pattern that applies decides.
use Rattle.std.specs.Prelude.{Bool, true, false, not, cond, List, [], ◌∷◌, filter}
use Rattle.std.proofs.Common.{◌≡◌, refl, ◌∙◌, sym}
use Rattle.pana_ignore.specs.declared.pattern.Pattern.{Pattern}
use Rattle.pana_ignore.specs.Match.{is_nothing}
use Rattle.pana_ignore.specs.Pattern.{decided}
use Rattle.pana_ignore.specs.inner.Verdicts.{verdict}

-- the patterns behind one that applies decide, where one of them applies
pub verdict-filter : (test : Pattern → Bool) (before : Bool) (patterns : List Pattern)
    → verdict test before patterns ≡ cond (is_nothing (filter test patterns)) before (decided (filter test patterns))
verdict-filter test before [] = refl
verdict-filter test before (pattern ∷ patterns) =
    elim (test pattern) as (λ b. verdict test (cond b (not pattern.includes) before) patterns
    ≡ cond (is_nothing (cond b (pattern ∷ filter test patterns) (filter test patterns))) before (decided (cond b (pattern ∷ filter test patterns) (filter test patterns)))) [
      | true ↦ verdict-filter test (not pattern.includes) patterns
      | false ↦ verdict-filter test before patterns
    ]

decided-nothing : (patterns : List Pattern) → cond (is_nothing patterns) false (decided patterns) ≡ decided patterns
decided-nothing [] = refl
decided-nothing (pattern ∷ patterns) = refl

pub decided-verdict : (test : Pattern → Bool) (patterns : List Pattern) → decided (filter test patterns) ≡ verdict test false patterns
decided-verdict test patterns = sym (verdict-filter test false patterns ∙ decided-nothing (filter test patterns))
