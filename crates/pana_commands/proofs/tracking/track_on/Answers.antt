use Rattle.pana_commands.proofs.Cut.{cut_after_all, unkept_after_all}
use Rattle.pana_commands.proofs.tracking.track_on.Goals as goal

pub returns-in_err-rows-clause-fails : goal.returns-in_err-rows-clause-fails
returns-in_err-rows-clause-fails g c = λ _.
    cut_after_all g.S.Session.step g.S.Session.keeps_together g.S.Session.fails c.args.may_be_empty g.S.Session.settles g.S.Session.breaks_off c.args.by.now c.args.folders.now c.args.session.now c.track_all.new.session c.settle.new.self
    c.status_of.new.session _ c.in_ok-lines.field-0.has_fault c.in_ok-lines.ensures.ok c.in_ok-settle.ensures.settles c.in_err-rows.ensures.fails

pub returns-in_err-settle-clause-fails : goal.returns-in_err-settle-clause-fails
returns-in_err-settle-clause-fails g c = λ _.
    unkept_after_all g.S.Session.step g.S.Session.keeps_together g.S.Session.fails c.args.may_be_empty g.S.Session.settles g.S.Session.breaks_off c.args.folders.now c.args.session.now c.track_all.new.session c.settle.new.self
    _ c.in_ok-lines.field-0.has_fault c.in_ok-lines.ensures.ok c.in_err-settle.ensures.breaks_off
