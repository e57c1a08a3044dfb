use Rattle.std.proofs.Common.{inl, inr}
use Rattle.std.proofs.lemmas.Result.{err_from_is_err_and}
use Rattle.pana_track.proofs.ignore_file.patterns_of.Goals as goal

pub returns-in_err-patterns-clause-known : goal.returns-in_err-patterns-clause-known
returns-in_err-patterns-clause-known g c = λ known.
    let p = err_from_is_err_and c.from_residual.result c.from_residual.ensures.1 in
    rw (p.1, p.2) (inr (c.in_err-patterns.ensures.known known))

pub returns-in_err-push_all-clause-known : goal.returns-in_err-push_all-clause-known
returns-in_err-push_all-clause-known g c = λ known.
    let p = err_from_is_err_and c.from_residual-in_err-push_all.result c.from_residual-in_err-push_all.ensures.1 in
    rw p.1 (inl p.2)

pub returns-clause-known : goal.returns-clause-known
returns-clause-known g c = λ known. (c.in_ok-patterns.patterns, c.in_ok-patterns.ensures.known known, c.in_ok-push_all.ensures)

pub returns-clause-behind : goal.returns-clause-behind
returns-clause-behind g c = (c.in_ok-patterns.patterns, c.in_ok-push_all.ensures)
