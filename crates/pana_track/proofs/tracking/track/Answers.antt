use Rattle.std.proofs.Common.{◌∙◌, sym}
use Rattle.pana_track.proofs.Reported.{if_err}
use Rattle.pana_track.proofs.Tracked.{if_broken, if_reported, is_empty, none_asked, runs_short, reports_none}
use Rattle.pana_track.proofs.tracking.track.Goals as goal

pub returns-in_err-holdings-clause-fails : goal.returns-in_err-holdings-clause-fails
returns-in_err-holdings-clause-fails g c =
    if_err c.from_residual.result _
    (none_asked g.S.Session.step c.args.may_be_empty c.args.found.now c.device-device.result.now c.device-device.ensures g.S.Session.keeps_together g.S.Session.fails c.args.session.now c.holdings_of.new.session c.args.tally.now c.holdings_of.new.tally
    c.in_err-holdings.ensures.fails.1 c.in_err-holdings.ensures.fails.0)

pub returns-in_default-clause-ok : goal.returns-in_default-clause-ok
returns-in_default-clause-ok g c =
    reports_none g.S.Session.step c.args.may_be_empty c.args.found.now c.device-device.result.now c.device-device.ensures c.args.session.now c.holdings_of.new.session c.args.tally.now c.holdings_of.new.tally
    c.in_ok-holdings.field-0 c.in_ok-holdings.ensures.ok g.S.Session.keeps_together c.in_default.is

pub returns-then-is_lost-clause-ok : goal.returns-then-is_lost-clause-ok
returns-then-is_lost-clause-ok g c =
    is_empty g.S.Session.step c.args.may_be_empty c.args.found.now c.device-device.result.now c.device-device.ensures c.args.session.now c.holdings_of.new.session c.args.tally.now c.holdings_of.new.tally
    c.in_ok-holdings.field-0 c.in_ok-holdings.ensures.ok c.in-Some.holdings c.in-Some.is g.S.Session.keeps_together (sym c.is_lost.ensures ∙ c.if-is_lost.true)

pub returns-in_default-notices_in-clause-ok : goal.returns-in_default-notices_in-clause-ok
returns-in_default-notices_in-clause-ok g c =
    runs_short g.S.Session.step c.args.may_be_empty c.args.found.now c.device-device.result.now c.device-device.ensures c.args.session.now c.holdings_of.new.session c.args.tally.now c.holdings_of.new.tally
    c.in_ok-holdings.field-0 c.in_ok-holdings.ensures.ok c.in-Some.holdings c.in-Some.is (sym c.is_lost.ensures ∙ c.if-is_lost.false) g.S.Session.keeps_together

pub returns-clause-ok : goal.returns-clause-ok
returns-clause-ok g c =
    if_reported g.S.Session.step c.args.may_be_empty c.args.found.now c.device-device.result.now c.device-device.ensures c.args.session.now c.holdings_of.new.session c.args.tally.now c.holdings_of.new.tally
    c.in_ok-holdings.field-0 c.in_ok-holdings.ensures.ok c.in-Some.holdings c.in-Some.is (sym c.is_lost.ensures ∙ c.if-is_lost.false)
    c.as_slice.result.now (c.as_slice.ensures ∙ c.in-Ok.ensures) g.S.Session.keeps_together c.report_all.result c.report_all.new.session c.report_all.new.tally c.report_all.ensures.ok

pub returns-clause-fails : goal.returns-clause-fails
returns-clause-fails g c =
    if_broken g.S.Session.step c.args.may_be_empty c.args.found.now c.device-device.result.now c.device-device.ensures c.args.session.now c.holdings_of.new.session c.args.tally.now c.holdings_of.new.tally
    c.in_ok-holdings.field-0 c.in_ok-holdings.ensures.ok c.in-Some.holdings c.in-Some.is (sym c.is_lost.ensures ∙ c.if-is_lost.false)
    c.as_slice.result.now (c.as_slice.ensures ∙ c.in-Ok.ensures) g.S.Session.keeps_together g.S.Session.fails c.report_all.result c.report_all.new.session c.report_all.new.tally c.report_all.ensures.fails
