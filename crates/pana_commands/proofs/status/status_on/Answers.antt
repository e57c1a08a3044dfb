use Rattle.std.proofs.Common.{rules, Bool, subst}
use Rattle.pana_calls.specs.Session.{one}
use Rattle.std.proofs.lemmas.Result.{err_from_is_err_and}
use Rattle.pana_commands.specs.Newest.{HasNewest}
use Rattle.pana_commands.specs.Status.{HasTotal}
use Rattle.pana_commands.specs.declared.untracked.Untracked.TheVariants.{NoAnswer}
use Rattle.pana_commands.proofs.Boarded.{passed_on}
use Rattle.pana_commands.proofs.Cut.{cut_in_pages}
use Rattle.pana_commands.proofs.Listed.{cut_behind_newest, cut_behind_rows}
use Rattle.pana_commands.proofs.status.status_on.Goals as goal

pub returns-in_err-rows-clause-fails : goal.returns-in_err-rows-clause-fails
returns-in_err-rows-clause-fails g c = λ _. cut_in_pages g.S.Session.step (one g.S.Session.fails) c.args.by.now c.args.session.now c.status_of.new.session c.in_err-rows.ensures.fails

pub returns-in_err-newest-clause-fails : goal.returns-in_err-newest-clause-fails
returns-in_err-newest-clause-fails g c = λ is.
    let p = err_from_is_err_and c.from_residual-in_err-newest.result c.from_residual-in_err-newest.ensures.1 in
    cut_behind_rows g.S.Session.step (one g.S.Session.fails) c.args.by.now c.args.session.now c.status_of.new.session c.newest_of.new.session c.in-Some.rows (rw c.in-Some.is at c.in_ok-rows.ensures.ok)
    (c.in_err-newest.ensures.fails (passed_on _ p.0 _ NoAnswer p.1 p.2 is))

pub returns-in_err-total-clause-fails : goal.returns-in_err-total-clause-fails
returns-in_err-total-clause-fails g c = λ is.
    let p = err_from_is_err_and c.from_residual-in_err-total.result c.from_residual-in_err-total.ensures.1 in
    cut_behind_rows g.S.Session.step (one g.S.Session.fails) c.args.by.now c.args.session.now c.status_of.new.session c.total_of.new.session c.in-Some.rows (rw c.in-Some.is at c.in_ok-rows.ensures.ok)
    (cut_behind_newest g.S.Session.step (one g.S.Session.fails) c.args.by.now c.status_of.new.session c.newest_of.new.session c.total_of.new.session c.asks_newest.result c.in_ok-newest.newest c.in_ok-newest.ensures.ok
    (c.in_err-total.ensures.fails (passed_on _ p.0 _ NoAnswer p.1 p.2 is)))

pub returns-clause-ok : goal.returns-clause-ok
returns-clause-ok g c = record {
  rows = c.in-Some.rows;
  newest = c.in_ok-newest.newest;
  total = c.in_ok-total.total;
  asked = c.status_of.new.session;
  listed = c.newest_of.new.session;
  has = rw c.in-Some.is at c.in_ok-rows.ensures.ok;
  lists = subst (λ (asks : Bool). HasNewest g.S.Session.step c.args.by.now asks c.status_of.new.session c.newest_of.new.session c.in_ok-newest.newest) c.asks_newest.ensures c.in_ok-newest.ensures.ok;
  counts = subst (λ (asks : Bool). HasTotal g.S.Session.step c.args.by.now asks c.newest_of.new.session c.total_of.new.session c.in_ok-total.total) c.asks_total.ensures c.in_ok-total.ensures.ok;
  out = search rules;
  err = search rules;
  status = search rules;
}
