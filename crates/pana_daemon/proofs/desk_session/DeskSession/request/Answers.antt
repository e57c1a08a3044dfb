use Rattle.std.proofs.Common.{arith, sym, ◌∙◌}
use Rattle.std.proofs.lemmas.Grind.{common_steps}
use Rattle.pana_daemon.proofs.Sessions.{passing_so}
use Rattle.pana_daemon.proofs.desk_session.DeskSession.request.Goals as goal

pub invariant_of-self-then-is_nothing : goal.invariant_of-self-then-is_nothing
invariant_of-self-then-is_nothing g c = (
  c.call.ensures.same.0 ∙ c.self.invariant.0,
  grind (arith, common_steps),
  λ is. passing_so c.self.inside.pass c.call.new.pass c.args.request c.in-Ok.response c.call.ensures.same c.in-Ok.ensures.done (sym c.is_passing-self-inside.ensures ∙ is),
  c.self.invariant.3,
)
