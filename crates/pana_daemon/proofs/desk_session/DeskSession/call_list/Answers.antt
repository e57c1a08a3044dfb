use Rattle.std.proofs.Common.{arith, refl, subst, sym, ◌∙◌}
use Rattle.pana_calls.proofs.Calls.{on_err}
use Rattle.pana_daemon.specs.Session.{SessionView}
use Rattle.pana_daemon.proofs.Lists.{AllTold, SomeTold, all_told, few, none_told, some_told}
use Rattle.pana_daemon.proofs.Sessions.{came}
use Rattle.pana_daemon.proofs.desk_session.DeskSession.call_list.Goals as goal

pub unreachable-requires : goal.unreachable-requires
unreachable-requires g c = (came g.S.Session.step g.S.Session.fails g.S.Session.settles g.S.Session.breaks_off c.in_ok-given.ensures.response.0.made c.in-Answer.is).2

pub unreachable-requires-in-Settled : goal.unreachable-requires-in-Settled
unreachable-requires-in-Settled g c = (came g.S.Session.step g.S.Session.fails g.S.Session.settles g.S.Session.breaks_off c.in_ok-given.ensures.response.0.made c.in-Settled.is).2

pub unreachable-requires-in-Nothing : goal.unreachable-requires-in-Nothing
unreachable-requires-in-Nothing g c = (came g.S.Session.step g.S.Session.fails g.S.Session.settles g.S.Session.breaks_off c.in_ok-given.ensures.response.0.made c.in-Nothing.is).2

pub returns-in_err-given-clause-fails : goal.returns-in_err-given-clause-fails
returns-in_err-given-clause-fails g c =
    on_err c.from_residual.result _ (subst (λ (old : SessionView g.row.S.Denot). SomeTold g.S.Session.step g.S.Session.fails g.S.Session.settles g.S.Session.breaks_off g.S.Session.keeps_together c.requires.together old c.args.list c.args.answers.now.items c.args.answers.now.items c.request.new.self) c.self.view_is
    (none_told g.S.Session.step g.S.Session.fails g.S.Session.settles g.S.Session.breaks_off g.S.Session.keeps_together c.requires.together c.requires.some c.in_err-given.ensures.none refl))

pub add_all-requires : goal.add_all-requires
add_all-requires g c = omega (arith, c.requires.room, few g.S.Session.step g.S.Session.fails g.S.Session.settles g.S.Session.breaks_off g.S.Session.keeps_together c.requires.together c.in_ok-given.ensures.response c.in-Answers.is)

pub returns-then-is_some-clause-fails : goal.returns-then-is_some-clause-fails
returns-then-is_some-clause-fails g c =
    subst (λ (old : SessionView g.row.S.Denot). SomeTold g.S.Session.step g.S.Session.fails g.S.Session.settles g.S.Session.breaks_off g.S.Session.keeps_together c.requires.together old c.args.list c.args.answers.now.items c.add_all.new.answers.items c.request.new.self) c.self.view_is
    (some_told g.S.Session.step g.S.Session.fails g.S.Session.settles g.S.Session.breaks_off g.S.Session.keeps_together c.requires.together c.in-Answers.stopped c.in_ok-given.ensures.response c.in-Answers.is (sym c.is_some.ensures ∙ c.if-is_some.true) c.add_all.ensures)

pub returns-clause-step : goal.returns-clause-step
returns-clause-step g c =
    subst (λ (old : SessionView g.row.S.Denot). AllTold g.S.Session.step g.S.Session.fails g.S.Session.settles g.S.Session.breaks_off g.S.Session.keeps_together c.requires.together old c.args.list c.args.answers.now.items c.add_all.new.answers.items c.request.new.self) c.self.view_is
    (all_told g.S.Session.step g.S.Session.fails g.S.Session.settles g.S.Session.breaks_off g.S.Session.keeps_together c.requires.together c.in-Answers.stopped c.requires.some c.in_ok-given.ensures.response c.in-Answers.is (sym c.is_some.ensures ∙ c.if-is_some.false) c.add_all.ensures)
