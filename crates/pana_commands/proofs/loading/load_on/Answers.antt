use Rattle.std.proofs.Common.{inl, ap, ◌∙◌, subst}
use Rattle.std.proofs.lemmas.Result.{IfOk-weaker}
use Rattle.pana_wire.specs.Lines.{texts}
use Rattle.pana_seal.specs.Seal.{IsIntact, IsDamagedAt, IsSealFault}
use Rattle.pana_commands.specs.Load.{AnswersLines}
use Rattle.pana_commands.proofs.Reported.{damage_reported}
use Rattle.pana_commands.proofs.loading.load_on.Goals as goal

pub returns-in-Ok : goal.returns-in-Ok
returns-in-Ok c =
    let read = ap texts c.as_slice.ensures.value ∙ c.in_ok-lines.ensures in
    let lines = ap texts c.as_slice-in-Ok.ensures.value ∙ c.in_ok-lines.ensures in
    IfOk-weaker c.answer_lines.result _ _ (λ answer says. inl (subst IsIntact read c.in-Ok.ensures.intact, subst (λ l. AnswersLines c.args.terminal l answer) lines says)) c.answer_lines.ensures

pub returns-in-Err-Damaged : goal.returns-in-Err-Damaged
returns-in-Err-Damaged c =
    let read = ap texts c.as_slice.ensures.value ∙ c.in_ok-lines.ensures in
    IfOk-weaker c.reported.result _ _ (λ answer says. damage_reported c.args.terminal c.args.bytes.now c.in-Err-Damaged.line answer (subst (λ l. IsDamagedAt l c.in-Err-Damaged.line) read (subst (IsSealFault (texts c.as_slice.result.now)) c.in-Err-Damaged.field-0-is c.in-Err-Damaged.ensures.fault)) says) (rw c.in-Err-Damaged.field-0-is at c.reported.ensures)
