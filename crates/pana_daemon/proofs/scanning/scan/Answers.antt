use Rattle.std.proofs.Common.{List, Option, refl, subst}
use Rattle.pana_calls.specs.Session.{one}
use Rattle.pana_calls.specs.declared.holding.Holding.{Holding}
use Rattle.pana_calls.specs.declared.reply.Reply.TheVariants.{Holdings}
use Rattle.pana_calls.specs.declared.answer.Answer.TheVariants.{Given}
use Rattle.pana_daemon.specs.inner.Scan.{Asks}
use Rattle.pana_daemon.proofs.Scans.{asked, if_err, none_asked, none_held, planned_all, planned_spent}
use Rattle.pana_daemon.proofs.scanning.scan.Goals as goal

pub returns-in_default-clause-ok : goal.returns-in_default-clause-ok
returns-in_default-clause-ok g c =
    none_held g.S.Session.step c.args.device.now c.args.listing.now c.args.session.now c.holdings_of.new.session c.args.baseline.now c.args.baseline.now c.requires refl
    (subst (λ (o : Option (List Holding)). Asks g.S.Session.step c.args.device.now c.args.session.now c.holdings_of.new.session o) c.in_default.is c.in_ok-holdings.ensures.ok)

pub returns-in_default-plan-clause-ok : goal.returns-in_default-plan-clause-ok
returns-in_default-plan-clause-ok g c =
    asked g.S.Session.step c.args.device.now c.args.listing.now (Given (Holdings c.in-Some.holdings)) c.args.session.now c.holdings_of.new.session c.args.baseline.now c.args.baseline.now c.requires
    (subst (λ (o : Option (List Holding)). Asks g.S.Session.step c.args.device.now c.args.session.now c.holdings_of.new.session o) c.in-Some.is c.in_ok-holdings.ensures.ok)
    refl

pub returns-clause-ok : goal.returns-clause-ok
returns-clause-ok g c =
    planned_all g.S.Session.step c.args.device.now c.args.listing.now c.in-Some.holdings c.args.baseline.now c.args.session.now c.holdings_of.new.session c.requires
    (subst (λ (o : Option (List Holding)). Asks g.S.Session.step c.args.device.now c.args.session.now c.holdings_of.new.session o) c.in-Some.is c.in_ok-holdings.ensures.ok)
    c.in-Ok.field-0 c.in-Ok.ensures c.report_all.result c.report_all.new.session c.report_all.new.baseline c.as_slice.result.now c.as_slice.ensures c.report_all.ensures.ok

pub returns-clause-fails : goal.returns-clause-fails
returns-clause-fails g c =
    planned_spent g.S.Session.step c.args.device.now c.args.listing.now c.in-Some.holdings c.args.baseline.now c.args.session.now c.holdings_of.new.session c.requires
    (subst (λ (o : Option (List Holding)). Asks g.S.Session.step c.args.device.now c.args.session.now c.holdings_of.new.session o) c.in-Some.is c.in_ok-holdings.ensures.ok)
    c.in-Ok.field-0 c.in-Ok.ensures (one g.S.Session.fails) c.report_all.result c.report_all.new.session c.report_all.new.baseline c.as_slice.result.now c.as_slice.ensures c.report_all.ensures.fails

pub returns-in_err-holdings-clause-fails : goal.returns-in_err-holdings-clause-fails
returns-in_err-holdings-clause-fails g c =
    if_err c.from_residual.result _
    (none_asked g.S.Session.step c.args.device.now (one g.S.Session.fails) c.args.listing.now c.args.session.now c.holdings_of.new.session c.args.baseline.now c.args.baseline.now c.requires c.in_err-holdings.ensures.fails refl)
