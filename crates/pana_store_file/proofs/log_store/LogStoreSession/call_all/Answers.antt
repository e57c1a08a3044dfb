-- What the shared store does is seen of this one.
use Rattle.std.proofs.lemmas.Result.{on_err_weaker, on_ok_weaker}
use Rattle.pana_store_file.proofs.Listed.{adds_so, some_so}
use Rattle.pana_store_file.proofs.log_store.LogStoreSession.call_all.Goals as goal

pub returns-clause-step : goal.returns-clause-step
returns-clause-step c = rw (← c.self.view_is) (on_ok_weaker c.call_all.result (λ adds. adds_so _ _ _ _ _ _ adds) c.call_all.ensures.step)

pub returns-clause-fails : goal.returns-clause-fails
returns-clause-fails c = rw (← c.self.view_is) (on_err_weaker c.call_all.result (λ adds. some_so _ _ _ _ _ _ adds) c.call_all.ensures.fails)
