use Rattle.std.proofs.lemmas.Result.{err_from_is_err_and}
use Rattle.pana_calls.specs.Session.{one}
use Rattle.pana_commands.specs.declared.untracked.Untracked.TheVariants.{NoAnswer}
use Rattle.pana_commands.proofs.Boarded.{cut_behind_families, no_families, passed_on}
use Rattle.pana_commands.proofs.newest.newest_of_all.Goals as goal

pub returns-in_err-rows-clause-fails : goal.returns-in_err-rows-clause-fails
returns-in_err-rows-clause-fails g c = λ is.
    let p = err_from_is_err_and c.from_residual.result c.from_residual.ensures.1 in
    no_families g.S.Session.step c.args.by.now (one g.S.Session.fails) c.args.session.now c.args.session.now c.families_of.new.session
    (c.in_err-rows.ensures.fails (passed_on _ p.0 _ NoAnswer p.1 p.2 is))

pub returns-clause-fails : goal.returns-clause-fails
returns-clause-fails g c = λ is.
    cut_behind_families g.S.Session.step c.args.by.now (one g.S.Session.fails) c.args.session.now c.families_of.new.session c.newest_of_each.new.session c.in_ok-rows.rows c.in_ok-rows.ensures.ok
    (c.newest_of_each.ensures.fails is)
