use Rattle.std.proofs.Common.{ℕ, Option, ◌+◌, map, subst, arith}
use Rattle.pana_track.specs.declared.fault.TrackFault.{TrackFault}
use Rattle.pana_track.specs.inner.Rounds.{ReportsList}
use Rattle.pana_track.proofs.ByRounds.{RoundSoFar, list_breaks, list_reported, list_stops, none_yet, round_made}
use Rattle.pana_track.proofs.Listed.{list_lent, map_length}
use Rattle.pana_track.proofs.Reported.{if_err}
use Rattle.pana_track.proofs.rounds.report_round.Goals as goal

pub loop-done-init : goal.loop-done-init
loop-done-init g c = none_yet g.S.Session.step c.args.device.now (map (λ notice. notice.now) c.args.notices.now) c.args.session.now c.args.tally.now (map (λ notice. notice.now) c.args.left.now.items)

pub returns-in_err-fault-clause-fails : goal.returns-in_err-fault-clause-fails
returns-in_err-fault-clause-fails g c =
    if_err c.from_residual.result _
    (list_breaks g.S.Session.step c.args.device.now (map (λ notice. notice.now) c.args.notices.now) c.loop-done.done c.args.session.now c.loop-done.session c.args.tally.now c.loop-done.tally (map (λ notice. notice.now) c.args.left.now.items) (map (λ notice. notice.now) c.loop-done.left.items) c.loop-done.invariant
    (omega (arith, c.loop-done-test.true, map_length (λ notice. notice.now) c.args.notices.now)) (map (λ notice. notice.now) c.list_at-list.result.now) (list_lent (λ notice. notice.now) c.loop-done.done c.args.notices.now c.list_at-list.result.now c.list_at-list.ensures)
    c.report_list.new.session c.report_list.new.tally (map (λ notice. notice.now) c.report_list.new.left.items) g.S.Session.fails c.in_err-fault.ensures.fails)

pub returns-in-Some-clause-ok : goal.returns-in-Some-clause-ok
returns-in-Some-clause-ok g c =
    list_stops g.S.Session.step c.args.device.now (map (λ notice. notice.now) c.args.notices.now) c.loop-done.done c.args.session.now c.loop-done.session c.args.tally.now c.loop-done.tally (map (λ notice. notice.now) c.args.left.now.items) (map (λ notice. notice.now) c.loop-done.left.items) c.loop-done.invariant
    (omega (arith, c.loop-done-test.true, map_length (λ notice. notice.now) c.args.notices.now)) (map (λ notice. notice.now) c.list_at-list.result.now) (list_lent (λ notice. notice.now) c.loop-done.done c.args.notices.now c.list_at-list.result.now c.list_at-list.ensures)
    c.report_list.new.session c.report_list.new.tally (map (λ notice. notice.now) c.report_list.new.left.items) c.in-Some.fault
    (subst (λ (stop : Option TrackFault). ReportsList g.S.Session.step c.args.device.now (map (λ notice. notice.now) c.list_at-list.result.now) c.loop-done.session c.report_list.new.session c.loop-done.tally c.report_list.new.tally (map (λ notice. notice.now) c.loop-done.left.items) (map (λ notice. notice.now) c.report_list.new.left.items) stop) c.in-Some.is c.in_ok-fault.ensures.ok)

pub loop-done-preserved : goal.loop-done-preserved
loop-done-preserved g c =
    subst (λ (n : ℕ). RoundSoFar g.S.Session.step c.args.device.now (map (λ notice. notice.now) c.args.notices.now) (c.loop-done.done + n) c.args.session.now c.report_list.new.session c.args.tally.now c.report_list.new.tally (map (λ notice. notice.now) c.args.left.now.items) (map (λ notice. notice.now) c.report_list.new.left.items))
    (map_length (λ notice. notice.now) c.list_at-list.result.now)
    (list_reported g.S.Session.step c.args.device.now (map (λ notice. notice.now) c.args.notices.now) c.loop-done.done c.args.session.now c.loop-done.session c.args.tally.now c.loop-done.tally (map (λ notice. notice.now) c.args.left.now.items) (map (λ notice. notice.now) c.loop-done.left.items) c.loop-done.invariant
    (omega (arith, c.loop-done-test.true, map_length (λ notice. notice.now) c.args.notices.now)) (map (λ notice. notice.now) c.list_at-list.result.now) (list_lent (λ notice. notice.now) c.loop-done.done c.args.notices.now c.list_at-list.result.now c.list_at-list.ensures)
    c.report_list.new.session c.report_list.new.tally (map (λ notice. notice.now) c.report_list.new.left.items)
    (subst (λ (stop : Option TrackFault). ReportsList g.S.Session.step c.args.device.now (map (λ notice. notice.now) c.list_at-list.result.now) c.loop-done.session c.report_list.new.session c.loop-done.tally c.report_list.new.tally (map (λ notice. notice.now) c.loop-done.left.items) (map (λ notice. notice.now) c.report_list.new.left.items) stop) c.in_default.is c.in_ok-fault.ensures.ok))

pub returns-clause-ok : goal.returns-clause-ok
returns-clause-ok g c =
    round_made g.S.Session.step c.args.device.now (map (λ notice. notice.now) c.args.notices.now) c.loop-done.done c.args.session.now c.loop-done.session c.args.tally.now c.loop-done.tally (map (λ notice. notice.now) c.args.left.now.items) (map (λ notice. notice.now) c.loop-done.left.items) c.loop-done.invariant
    (omega (arith, c.loop-done-test.false, map_length (λ notice. notice.now) c.args.notices.now))
