use Rattle.std.proofs.Common.{◌≡◌, ◌≤◌, [], vec_capacity}
use Rattle.pana_turn.specs.declared.view.Stage.TheVariants.{Idle}
use Rattle.pana_turn.specs.Passes.{new_passes}
use Rattle.pana_turn.specs.inner.Views.{accounts_from, view}
use Rattle.pana_turn.proofs.dealing.deal.Given as goal

-- a pass for each number so far, and the first seat speaks for the others
abbrev pub invariant-loop-number : goal.invariant-loop-number
invariant-loop-number g l = record {
  seat_of : l.seat.table_id ≡ l.shared.table_id;
  me : l.seat.me ≡ (view (accounts_from l.shared.key.begun l.number l.shared.key.seats) [] [] Idle, []);
  dealt : l.passes.items ≡ new_passes (record { table = l.shared.table_id; begun = l.shared.key.begun }) l.number;
  room : l.seats ≤ vec_capacity l.passes;
}
