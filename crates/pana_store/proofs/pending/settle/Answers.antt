-- The line that was sealed is kept, or not.
use Rattle.std.proofs.Common.{Some, subst, sym, ◌∙◌}
use Rattle.std.proofs.lemmas.Result.{err_from_is_err_and}
use Rattle.pana_log.specs.Lines.{recovered, text_of, IsWhole}
use Rattle.pana_store.specs.Entries.{IsLineOf, IsSealedBehind}
use Rattle.pana_store.specs.inner.{IsSealer}
use Rattle.pana_store.proofs.Said.{either_more}
use Rattle.pana_store.proofs.Waiting.{line_kept}
use Rattle.pana_store.proofs.pending.settle.Goals as goal

pub commit-requires-clause-whole : goal.commit-requires-clause-whole
commit-requires-clause-whole g c = subst IsWhole (sym c.as_slice.ensures) (c.seal_line.ensures.line c.requires.waiting.0 c.requires.waiting.1.line).whole

pub returns-in_err-commit-clause-fails : goal.returns-in_err-commit-clause-fails
returns-in_err-commit-clause-fails g c =
    let p = err_from_is_err_and c.from_residual.result c.from_residual.ensures.1 in
    rw p.1
    (λ known kept waiting is some loads covers.
    let line = c.as_slice.result.now in
    let file = g.D.Device.seen c.args.log.now.device in
    let before = text_of (recovered file) in
    let seal : IsSealer c.args.sealer.now (Some c.in-Some.seal) = subst (IsSealer c.args.sealer.now) (sym c.take.ensures.value ∙ c.in-Some.is) (is.sealed some) in
    let whole : IsLineOf waiting line = subst (IsLineOf waiting) (sym c.as_slice.ensures) (c.seal_line.ensures.line waiting is.line) in
    let sealed : IsSealedBehind before line = subst (IsSealedBehind before) (sym c.as_slice.ensures) (c.seal_line.ensures.sealed waiting before is.line (seal before covers)) in
    either_more g.D.Device.moment g.D.Device.left_since c.args.log.now.device c.commit.new.log.device file line kept waiting loads whole sealed (c.commit.ensures.any_moment known))

pub returns-in_err-commit-clause-cause : goal.returns-in_err-commit-clause-cause
returns-in_err-commit-clause-cause g c =
    let p = err_from_is_err_and c.from_residual.result c.from_residual.ensures.1 in
    let line = c.as_slice.result.now in
    let whole : IsLineOf c.requires.waiting.0 line = subst (IsLineOf c.requires.waiting.0) (sym c.as_slice.ensures) (c.seal_line.ensures.line c.requires.waiting.0 c.requires.waiting.1.line) in
    rw p.1 (λ known. c.in_err-commit.ensures.cause known (c.requires.room known, whole.short))

pub returns-clause-ok : goal.returns-clause-ok
returns-clause-ok g c = λ known kept waiting is some loads covers.
    let line = c.as_slice.result.now in
    let file = g.D.Device.seen c.args.log.now.device in
    let before = text_of (recovered file) in
    let seal : IsSealer c.args.sealer.now (Some c.in-Some.seal) = subst (IsSealer c.args.sealer.now) (sym c.take.ensures.value ∙ c.in-Some.is) (is.sealed some) in
    let whole : IsLineOf waiting line = subst (IsLineOf waiting) (sym c.as_slice.ensures) (c.seal_line.ensures.line waiting is.line) in
    let sealed : IsSealedBehind before line = subst (IsSealedBehind before) (sym c.as_slice.ensures) (c.seal_line.ensures.sealed waiting before is.line (seal before covers)) in
    line_kept g.D.Device.seen g.D.Device.may_leave g.D.Device.is_usable g.D.Device.moment g.D.Device.left_since kept waiting c.args.log.now c.commit.new.log c.commit.new.sealer line loads whole sealed
    (c.in_ok-commit.ensures.settled known) (c.in_ok-commit.ensures.added known) (c.in_ok-commit.ensures.taken before covers) (c.commit.ensures.any_moment known)
