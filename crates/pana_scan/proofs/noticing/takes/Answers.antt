use Rattle.std.proofs.Common.{◌≡◌, sym, ◌∙◌, subst, Some, false}
use Rattle.std.specs.List.{list_any}
use Rattle.pana_scan.specs.Notice.{without_first}
use Rattle.pana_scan.specs.inner.Takers.{FilesWait, fits}
use Rattle.pana_scan.proofs.Taken.{all_left, none_fits, took_one, waits_on}
use Rattle.pana_scan.proofs.noticing.takes.Goals as goal

pub returns-in-Some-clause-found : goal.returns-in-Some-clause-found
returns-in-Some-clause-found c = λ left wait.
    subst (λ known. c.is_some.result ≡ list_any (fits known) left) (sym c.in-Some.is)
    (c.is_some.ensures ∙ took_one c.in-Some.sum c.args.files.now.rows.items left c.take.result c.take.ensures.first wait)

pub returns-in-Some-clause-rest : goal.returns-in-Some-clause-rest
returns-in-Some-clause-rest c = λ left wait.
    subst (λ known. FilesWait c.take.new.self.rows.items (without_first (fits known) left)) (sym c.in-Some.is)
    (waits_on (λ file. Some file.sum) (λ file. tt) c.in-Some.sum c.args.files.now.rows.items c.take.new.self.rows.items left wait c.take.ensures.rest)

pub returns-in-None-clause-found : goal.returns-in-None-clause-found
returns-in-None-clause-found c = λ left wait.
    subst (λ known. false ≡ list_any (fits known) left) (sym c.in-None.is) (sym (none_fits left))

pub returns-in-None-clause-rest : goal.returns-in-None-clause-rest
returns-in-None-clause-rest c = λ left wait.
    subst (λ known. FilesWait c.args.files.now.rows.items (without_first (fits known) left)) (sym c.in-None.is)
    (subst (FilesWait c.args.files.now.rows.items) (sym (all_left left)) wait)
