use Rattle.std.proofs.lemmas.Result.{err_from_is_err_and}
use Rattle.pana_history.proofs.Asked.{no_damage}
use Rattle.pana_history.proofs.why.explain.Goals as goal

pub returns-in_err-told-clause-damaged : goal.returns-in_err-told-clause-damaged
returns-in_err-told-clause-damaged c =
    let p = err_from_is_err_and c.from_residual-in_err-told.result c.from_residual-in_err-told.ensures.1 in
    no_damage c.args.journal _ p.0 p.1 p.2
