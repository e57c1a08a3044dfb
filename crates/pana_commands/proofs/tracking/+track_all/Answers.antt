use Rattle.std.proofs.Common.{subst}
use Rattle.std.specs.Prelude.{Err, IsErrOf}
use Rattle.std.proofs.lemmas.Result.{err_from_is_err_and}
use Rattle.pana_commands.specs.declared.tracking.Notes.{Notes}
use Rattle.pana_commands.specs.declared.untracked.Untracked.{Untracked}
use Rattle.pana_commands.specs.declared.untracked.Untracked.TheVariants.{NoAnswer}
use Rattle.pana_commands.proofs.Cut.{cut_behind}
use Rattle.pana_commands.proofs.tracking.+track_all.Goals as goal

pub returns-in_err-more-clause-fails : goal.returns-in_err-more-clause-fails
returns-in_err-more-clause-fails g t c = λ is.
    let p = err_from_is_err_and c.from_residual-in_err-more.result c.from_residual-in_err-more.ensures.1 in
    cut_behind g.S.Session.step g.S.Session.keeps_together g.S.Session.fails c.args.may_be_empty c.in-Some.folder.now.given c.args.session.now c.track_folder.new.session c.track_all.new.session c.in_ok-end.end c.in_ok-end.ensures.ok
    (c.in_err-more.ensures.fails (subst (λ (e : Untracked). IsErrOf {T = Notes} (Err e) NoAnswer) p.2 (subst (λ r. IsErrOf r NoAnswer) p.1 is)))
