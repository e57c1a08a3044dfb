use Rattle.pana_daemon.proofs.Sessions.{came}
use Rattle.pana_daemon.proofs.desk_session.DeskSessionSession.settle.Goals as goal

pub unreachable-requires : goal.unreachable-requires
unreachable-requires g c = (came g.S.Session.step g.S.Session.fails g.S.Session.settles g.S.Session.breaks_off c.in_ok-request.ensures.response.0.made c.in-Answer.is).2

pub unreachable-requires-in-Answers : goal.unreachable-requires-in-Answers
unreachable-requires-in-Answers g c = (came g.S.Session.step g.S.Session.fails g.S.Session.settles g.S.Session.breaks_off c.in_ok-request.ensures.response.0.made c.in-Answers.is).2
