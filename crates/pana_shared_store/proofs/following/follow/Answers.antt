use Rattle.std.proofs.Common.{◌∙◌, ℕ, ◌+◌, List, ◌++◌, refl, ap, subst}
use Rattle.pana_journal.specs.declared.entry.Entry.{Entry}
use Rattle.pana_journal.specs.declared.report.Report.{Report}
use Rattle.pana_calls.specs.declared.call.Call.TheVariants as calls
use Rattle.pana_hall.specs.Prepared.{AnswersAt, Prepares, entries_of}
use Rattle.pana_shared_store.proofs.Strange.{others_made, refused_as}
use Rattle.pana_shared_store.proofs.following.follow.Goals as goal

pub returns-then-is_only-clause-ok : goal.returns-then-is_only-clause-ok
returns-then-is_only-clause-ok c =
    c.commit_all.ensures ∙ ap (λ (l : List Entry). l ++ entries_of c.in-Ok-prepare.prepared) (c.in-Ok-prepare.ensures.ok.journal ∙ c.take_all.ensures.taken) ∙ ap (λ (l : List Entry). c.args.hall.now ++ l) (c.if-is_only.ensures.same refl)

pub returns-else-is_only-clause-why : goal.returns-else-is_only-clause-why
returns-else-is_only-clause-why c = (
  others_made c.args.hall.now c.args.entry.now c.in-Ok-prepare.prepared
      (subst (λ (r : Report). Prepares c.args.hall.now c.args.entry.now.by (calls.Report r) c.in-Ok-prepare.prepared) c.in-Ok.ensures (subst (λ (l : List Entry). Prepares l c.args.entry.now.by (calls.Report c.in-Ok.report) c.in-Ok-prepare.prepared) c.take_all.ensures.taken c.in-Ok-prepare.ensures.ok))
      (c.if-is_only.ensures.other refl),
  ap (λ (n : ℕ). n + 1) c.length-number.ensures.length,
)

pub returns-in-Err-clause-why : goal.returns-in-Err-clause-why
returns-in-Err-clause-why c =
    refused_as c.args.hall.now c.args.entry.now c.in-Err.field-0.reply (c.length-number.result + 1) c.why_not-why.result
    (subst (λ (r : Report). AnswersAt c.args.hall.now c.args.entry.now.by (calls.Report r) c.in-Err.field-0.reply) c.in-Ok.ensures (subst (λ (l : List Entry). AnswersAt l c.args.entry.now.by (calls.Report c.in-Ok.report) c.in-Err.field-0.reply) c.take_all.ensures.taken c.in-Err.ensures.reply))
    (ap (λ (n : ℕ). n + 1) c.length-number.ensures.length) c.why_not-why.ensures
