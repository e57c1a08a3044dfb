use Rattle.pana_track.proofs.Either.{if_turn_broken}
use Rattle.pana_track.proofs.reporting.report_all.Goals as goal

pub returns-else-keeps_together-clause-fails : goal.returns-else-keeps_together-clause-fails
returns-else-keeps_together-clause-fails g c =
    if_turn_broken g.S.Session.step c.args.device.now c.args.notices.now c.args.session.now c.report_in_turn.new.session c.args.tally.now c.report_in_turn.new.tally g.S.Session.keeps_together c.report_in_turn.result g.S.Session.fails c.report_in_turn.ensures.fails
