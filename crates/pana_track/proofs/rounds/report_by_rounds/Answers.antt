use Rattle.std.proofs.Common.{List, [], Option, None, Some, length, map, refl, subst, sym, ap, ◌∙◌, arith}
use Rattle.pana_scan.specs.declared.notices.Notice.{Notice}
use Rattle.pana_track.specs.declared.fault.TrackFault.{TrackFault}
use Rattle.pana_track.specs.inner.Rounds.{BreaksRound, ReportsRound}
use Rattle.pana_track.proofs.ByRounds.{all_rounds, comes_to_rest, round_breaks, round_on, round_stops, runs_out}
use Rattle.pana_track.proofs.Listed.{map_length, nothing_in, something_in}
use Rattle.pana_track.proofs.Reported.{if_err}
use Rattle.pana_track.proofs.rounds.report_by_rounds.Goals as goal

pub returns-in_default-clause-ok : goal.returns-in_default-clause-ok
returns-in_default-clause-ok g c = runs_out g.S.Session.step c.args.device.now c.args.notices.now c.args.session.now c.args.tally.now (something_in (length c.args.notices.now) c.args.notices.now refl (sym c.is_empty.ensures ∙ c.if-is_empty.false))

pub returns-then-is_empty-2-clause-ok : goal.returns-then-is_empty-2-clause-ok
returns-then-is_empty-2-clause-ok g c =
    comes_to_rest g.S.Session.step c.args.device.now c.args.notices.now c.loop.counter (map (λ notice. notice.now) c.loop.round.items) c.args.session.now c.loop.session c.args.tally.now c.loop.tally c.loop.invariant
    (ap (map (λ notice. notice.now)) (nothing_in c.loop.round.len c.loop.round.items c.loop.round.ok.0 (sym c.is_empty-in-loop.ensures ∙ c.if-is_empty-2.true)))

pub returns-in_err-fault-clause-fails : goal.returns-in_err-fault-clause-fails
returns-in_err-fault-clause-fails g c =
    if_err c.from_residual.result _
    (round_breaks g.S.Session.step c.args.device.now c.args.notices.now c.loop.counter (map (λ notice. notice.now) c.loop.round.items) c.args.session.now c.loop.session c.args.tally.now c.loop.tally c.loop.invariant c.loop-test.true
    (omega (arith, map_length (λ notice. notice.now) c.loop.round.items, something_in c.loop.round.len c.loop.round.items c.loop.round.ok.0 (sym c.is_empty-in-loop.ensures ∙ c.if-is_empty-2.false))) c.report_round.new.session c.report_round.new.tally g.S.Session.fails
    (subst (λ (ns : List Notice). BreaksRound g.S.Session.step c.args.device.now ns c.loop.session c.report_round.new.session c.loop.tally c.report_round.new.tally g.S.Session.fails) (ap (map (λ notice. notice.now)) c.as_slice.ensures.value) c.in_err-fault.ensures.fails))

pub returns-in-Some-clause-ok : goal.returns-in-Some-clause-ok
returns-in-Some-clause-ok g c =
    round_stops g.S.Session.step c.args.device.now c.args.notices.now c.loop.counter (map (λ notice. notice.now) c.loop.round.items) c.args.session.now c.loop.session c.args.tally.now c.loop.tally c.loop.invariant c.loop-test.true
    (omega (arith, map_length (λ notice. notice.now) c.loop.round.items, something_in c.loop.round.len c.loop.round.items c.loop.round.ok.0 (sym c.is_empty-in-loop.ensures ∙ c.if-is_empty-2.false))) c.report_round.new.session c.report_round.new.tally
    (map (λ notice. notice.now) c.report_round.new.left.items) c.in-Some.fault
    (subst (λ (ns : List Notice). ReportsRound g.S.Session.step c.args.device.now ns c.loop.session c.report_round.new.session c.loop.tally c.report_round.new.tally [] (map (λ notice. notice.now) c.report_round.new.left.items) (Some c.in-Some.fault)) (ap (map (λ notice. notice.now)) c.as_slice.ensures.value)
    (subst (λ (ns : List Notice). ReportsRound g.S.Session.step c.args.device.now (map (λ notice. notice.now) c.as_slice.result.now) c.loop.session c.report_round.new.session c.loop.tally c.report_round.new.tally ns (map (λ notice. notice.now) c.report_round.new.left.items) (Some c.in-Some.fault)) (ap (map (λ notice. notice.now)) c.new-left.ensures.items)
    (subst (λ (stop : Option TrackFault). ReportsRound g.S.Session.step c.args.device.now (map (λ notice. notice.now) c.as_slice.result.now) c.loop.session c.report_round.new.session c.loop.tally c.report_round.new.tally (map (λ notice. notice.now) c.new-left.result.items) (map (λ notice. notice.now) c.report_round.new.left.items) stop) c.in-Some.is c.in_ok-fault.ensures.ok)))

pub loop-preserved : goal.loop-preserved
loop-preserved g c =
    round_on g.S.Session.step c.args.device.now c.args.notices.now c.loop.counter (map (λ notice. notice.now) c.loop.round.items) c.args.session.now c.loop.session c.args.tally.now c.loop.tally c.loop.invariant c.loop-test.true
    (omega (arith, map_length (λ notice. notice.now) c.loop.round.items, something_in c.loop.round.len c.loop.round.items c.loop.round.ok.0 (sym c.is_empty-in-loop.ensures ∙ c.if-is_empty-2.false))) c.report_round.new.session c.report_round.new.tally
    (map (λ notice. notice.now) c.report_round.new.left.items)
    (subst (λ (ns : List Notice). ReportsRound g.S.Session.step c.args.device.now ns c.loop.session c.report_round.new.session c.loop.tally c.report_round.new.tally [] (map (λ notice. notice.now) c.report_round.new.left.items) None) (ap (map (λ notice. notice.now)) c.as_slice.ensures.value)
    (subst (λ (ns : List Notice). ReportsRound g.S.Session.step c.args.device.now (map (λ notice. notice.now) c.as_slice.result.now) c.loop.session c.report_round.new.session c.loop.tally c.report_round.new.tally ns (map (λ notice. notice.now) c.report_round.new.left.items) None) (ap (map (λ notice. notice.now)) c.new-left.ensures.items)
    (subst (λ (stop : Option TrackFault). ReportsRound g.S.Session.step c.args.device.now (map (λ notice. notice.now) c.as_slice.result.now) c.loop.session c.report_round.new.session c.loop.tally c.report_round.new.tally (map (λ notice. notice.now) c.new-left.result.items) (map (λ notice. notice.now) c.report_round.new.left.items) stop) c.in_default-2.is c.in_ok-fault.ensures.ok)))

pub returns-clause-ok : goal.returns-clause-ok
returns-clause-ok g c =
    all_rounds g.S.Session.step c.args.device.now c.args.notices.now c.loop.counter (map (λ notice. notice.now) c.loop.round.items) c.args.session.now c.loop.session c.args.tally.now c.loop.tally c.loop.invariant c.loop-test.false
