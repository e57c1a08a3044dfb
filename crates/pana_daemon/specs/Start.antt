-- The start of what is to run at once.
use Rattle.std.specs.Prelude.{ℕ, Bool}

-- what was answered to one that has asked whether all have begun: of which start, and the answer
pub record VerdictView : Type 0 where
  pub of : ℕ
  pub begins : Bool
