use Rattle.std.proofs.Common.{ℕ, Option, subst}
use Rattle.pana_journal.specs.Reports.{subject}
use Rattle.pana_watch.proofs.Led.{LedSoFar, led, led_on}
use Rattle.pana_watch.proofs.family_of.family_of.Goals as goal

pub returns-in-None : goal.returns-in-None
returns-in-None g c =
    let entry = c.args.entry.now in
    led g.S.Session.step c.args.by.now c.args.session.now entry.number (subject entry.report) c.loop.session c.loop.family
    (subst (λ (named : Option ℕ). LedSoFar g.S.Session.step c.args.by.now c.args.session.now entry.number (subject entry.report) c.loop.session c.loop.family named) c.in-None.is c.loop.invariant)

pub loop-preserved : goal.loop-preserved
loop-preserved g c =
    let entry = c.args.entry.now in
    led_on g.S.Session.step c.args.by.now c.args.session.now entry.number (subject entry.report) c.loop.session c.loop.family c.in-Some.number c.named_at.new.session c.in_ok-named.named
    (subst (λ (named : Option ℕ). LedSoFar g.S.Session.step c.args.by.now c.args.session.now entry.number (subject entry.report) c.loop.session c.loop.family named) c.in-Some.is c.loop.invariant)
    c.in_ok-named.ensures
