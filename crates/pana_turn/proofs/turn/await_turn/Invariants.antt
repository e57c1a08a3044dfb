use Rattle.std.proofs.Common.{◌≡◌, []}
use mathlib.Core.List.{IsPrefix}
use Rattle.pana_turn.specs.declared.view.Stage.TheVariants.{Drawn}
use Rattle.pana_turn.specs.History.{calls_of}
use Rattle.pana_turn.specs.inner.Views.{pass}
use Rattle.pana_turn.proofs.turn.await_turn.Given as goal

-- the seat waits with its ticket, and has seen no call of its own more
abbrev pub invariant-loop : goal.invariant-loop
invariant-loop g l = record {
  table : l.seat.table_id ≡ l.fn.seat.table_id;
  me : l.seat.me ≡ (pass l.shared.key.begun l.number (calls_of l.number l.seat.me.0.seen) l.seat.me.0.seen (Drawn l.ticket), []);
  seen : IsPrefix l.fn.seat.me.0.seen l.seat.me.0.seen;
  own : calls_of l.number l.seat.me.0.seen ≡ calls_of l.number l.fn.seat.me.0.seen;
}
