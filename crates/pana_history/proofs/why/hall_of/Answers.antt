use Rattle.std.proofs.Common.{◌≡◌, List, IfOk, IfErr, subst}
use Rattle.std.proofs.lemmas.Result.{err_from_is_err_and}
use Rattle.pana_journal.specs.declared.entry.Entry.{Entry}
use Rattle.pana_history.specs.Why.{IsDamage}
use Rattle.pana_history.proofs.Asked.{no_damage}
use Rattle.pana_history.proofs.why.hall_of.Goals as goal

pub returns-in_err-entries-clause-damaged : goal.returns-in_err-entries-clause-damaged
returns-in_err-entries-clause-damaged c =
    let p = err_from_is_err_and c.from_residual.result c.from_residual.ensures.1 in
    no_damage c.args.journal.now _ p.0 p.1 p.2

pub returns-clause-ok : goal.returns-clause-ok
returns-clause-ok c = subst (λ (j : List Entry). IfOk c.load.result (λ hall. hall ≡ j)) c.in_ok-entries.ensures c.load.ensures.ok

pub returns-clause-damaged : goal.returns-clause-damaged
returns-clause-damaged c = subst (λ (j : List Entry). IfErr c.load.result (IsDamage j)) c.in_ok-entries.ensures c.load.ensures.damaged
