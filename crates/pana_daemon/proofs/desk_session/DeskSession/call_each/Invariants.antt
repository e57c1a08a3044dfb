use Rattle.std.proofs.Common.{◌+◌, ◌≤◌, length, vec_len, vec_capacity}
use Rattle.pana_calls.proofs.Calls.{Completes}
use Rattle.pana_daemon.specs.Desk.{RequestSteps}
use Rattle.pana_daemon.specs.Session.{GetNone, MakesCall}
use Rattle.pana_daemon.proofs.desk_session.DeskSession.call_each.Given as goal

abbrev pub invariant-loop-by : goal.invariant-loop-by
invariant-loop-by g l = record {
  far : Completes (MakesCall (RequestSteps g.S.Session.step g.S.Session.fails g.S.Session.settles g.S.Session.breaks_off) g.S.Session.keeps_together) (GetNone (RequestSteps g.S.Session.step g.S.Session.fails g.S.Session.settles g.S.Session.breaks_off) g.S.Session.keeps_together) l.fn.self l.fn.calls.items l.fn.answers.items l.self l.by-iterator.rest.items l.answers.items;
  room : vec_len l.answers + length l.by-iterator.rest.items ≤ vec_capacity l.answers;
}
