-- The table of a desk.
use Rattle.std.specs.Prelude.{◌≡◌, ℕ, ◌<◌, ◌≤◌}
use Rattle.atomic_table.specs.Seated.{TableId}
use Rattle.pana_turn.specs.Rule.{DeskKey}

-- two words and one slot, under the rule for this many passes, of which there are 1 to 64
pub record IsTable {S : Type 0} (id : TableId) (rule : DeskKey S) (seats : ℕ) : Type 0 where
  pub words : id.words ≡ 2
  pub slots : id.slots ≡ 1
  pub rule_is : rule.seats ≡ seats
  pub not_none : 0 < seats
  pub few : seats ≤ 64
