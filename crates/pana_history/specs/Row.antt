-- A row of a history.
use Rattle.std.specs.Prelude.{ℕ, Bool, List}
use Rattle.pana_history.specs.declared.mark.Mark.{Mark}

-- what contracts see of a row: a mark for each lane, its text, and whether it is struck
pub record Drawn : Type 0 where
  pub marks : List Mark
  pub text : List ℕ
  pub is_struck : Bool
