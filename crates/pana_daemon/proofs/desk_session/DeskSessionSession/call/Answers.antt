use Rattle.pana_daemon.proofs.Sessions.{came}
use Rattle.pana_daemon.proofs.desk_session.DeskSessionSession.call.Goals as goal

pub unreachable-requires : goal.unreachable-requires
unreachable-requires g c = (came g.S.Session.step g.S.Session.fails g.S.Session.settles g.S.Session.breaks_off c.in_ok-answer.ensures.response.0.made c.in-Answers.is).2

pub unreachable-requires-in-Settled : goal.unreachable-requires-in-Settled
unreachable-requires-in-Settled g c = (came g.S.Session.step g.S.Session.fails g.S.Session.settles g.S.Session.breaks_off c.in_ok-answer.ensures.response.0.made c.in-Settled.is).2
