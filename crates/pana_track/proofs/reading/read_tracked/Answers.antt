use Rattle.std.proofs.Common.{inl, inr}
use Rattle.std.proofs.lemmas.Result.{err_from_is_err_and}
use Rattle.pana_track.proofs.reading.read_tracked.Goals as goal

pub returns-in_err-patterns-clause-known : goal.returns-in_err-patterns-clause-known
returns-in_err-patterns-clause-known g c = λ known.
    let p = err_from_is_err_and c.from_residual.result c.from_residual.ensures.1 in
    rw (p.1, p.2) (inl (c.in_err-patterns.ensures.known known))

pub returns-in_err-listing-clause-known : goal.returns-in_err-listing-clause-known
returns-in_err-listing-clause-known g c = λ known.
    let p = err_from_is_err_and c.from_residual-in_err-listing.result c.from_residual-in_err-listing.ensures.1 in
    rw (p.1, p.2) (inr (c.in_ok-patterns.patterns, c.in_ok-patterns.ensures.known known, c.in_err-listing.ensures.known known))

pub returns-clause-known : goal.returns-clause-known
returns-clause-known g c = λ known. (c.in_ok-patterns.ensures.known known, c.in_ok-listing.ensures.known known)
