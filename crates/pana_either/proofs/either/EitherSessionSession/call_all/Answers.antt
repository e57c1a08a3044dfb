-- What the session that it is has done.
use Rattle.std.proofs.lemmas.Result.{on_err_weaker, on_ok_weaker}
use Rattle.pana_either.specs.declared.either.EitherSession.TheVariants.{Left, Right}
use Rattle.pana_either.proofs.Alike.{adds_so, some_so}
use Rattle.pana_either.proofs.either.EitherSessionSession.call_all.Goals as goal

pub returns-in-Left-clause-step : goal.returns-in-Left-clause-step
returns-in-Left-clause-step g c = rw (c.in-Left.is) (on_ok_weaker c.call_all.result (λ adds. adds_so Left _ _ (λ a by call answer b p. p) _ _ _ _ _ adds) c.call_all.ensures.step)

pub returns-in-Left-clause-fails : goal.returns-in-Left-clause-fails
returns-in-Left-clause-fails g c = rw (c.in-Left.is) (on_err_weaker c.call_all.result (λ adds. some_so Left _ _ (λ a by call answer b p. p) _ _ (λ a tried b p. p) _ _ _ _ _ adds) c.call_all.ensures.fails)

pub returns-in-Right-clause-step : goal.returns-in-Right-clause-step
returns-in-Right-clause-step g c = rw (c.in-Right.is) (on_ok_weaker c.call_all-in-Right.result (λ adds. adds_so Right _ _ (λ a by call answer b p. p) _ _ _ _ _ adds) c.call_all-in-Right.ensures.step)

pub returns-in-Right-clause-fails : goal.returns-in-Right-clause-fails
returns-in-Right-clause-fails g c = rw (c.in-Right.is) (on_err_weaker c.call_all-in-Right.result (λ adds. some_so Right _ _ (λ a by call answer b p. p) _ _ (λ a tried b p. p) _ _ _ _ _ adds) c.call_all-in-Right.ensures.fails)
