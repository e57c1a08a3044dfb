use Rattle.pana_family.proofs.Words.{nat_tests, ◌∙◌, ap, arith, subst, sym, AreBefore, RowList}
use Rattle.pana_family.proofs.{Keeps.few_after, Able.able, Following.as_many}
use Rattle.pana_family.specs.View.{IsPrepared}
use Rattle.pana_family.proofs.family.Family.prepare.Goals as goal

pub report_change-requires-clause-able : goal.report_change-requires-clause-able
report_change-requires-clause-able c = grind (arith, nat_tests, able)

pub report_change-requires-clause-new : goal.report_change-requires-clause-new
report_change-requires-clause-new c = subst (AreBefore c.args.entry) (sym (c.deref.ensures.value ∙ ap (λ (v : RowList). v.rows) c.self.view_is)) c.requires.new

pub returns-in-Ok-clause-prepared : goal.returns-in-Ok-clause-prepared
unfolding IsPrepared
returns-in-Ok-clause-prepared c = grind (arith, nat_tests, few_after, as_many)

pub returns-in-Ok-clause-room : goal.returns-in-Ok-clause-room
returns-in-Ok-clause-room c = grind (arith, nat_tests)

pub returns-in-Err-clause-room : goal.returns-in-Err-clause-room
returns-in-Err-clause-room c = grind (arith, nat_tests)
