use Rattle.std.proofs.Common.{◌+◌, ◌≤◌, length, vec_len, vec_capacity}
use Rattle.pana_calls.proofs.Calls.{Completes}
use Rattle.pana_calls.proofs.session.Session.call_all.Given as goal

abbrev pub invariant-loop-by : goal.invariant-loop-by
invariant-loop-by g l = record {
  far : Completes g.Self.Session.step g.Self.Session.fails l.fn.self l.fn.calls.items l.fn.answers.items l.self l.by-iterator.rest.items l.answers.items;
  room : vec_len l.answers + length l.by-iterator.rest.items ≤ vec_capacity l.answers;
}
