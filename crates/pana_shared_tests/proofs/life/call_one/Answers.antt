use Rattle.std.proofs.lemmas.Result.{on_err_weaker}
use Rattle.pana_shared_tests.proofs.Lived.{made}
use Rattle.pana_shared_tests.proofs.life.call_one.Goals as goal

pub returns : goal.returns
returns g c = made g.L.SharedLog.is_known _ _ _ _ c.call.result c.call.ensures.step (on_err_weaker c.call.result (λ fails. fails.0) c.call.ensures.fails)
