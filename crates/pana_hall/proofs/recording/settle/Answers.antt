use Rattle.pana_hall.proofs.Words.{nat_tests, arith, ◌≡◌, Some, sym, ap, ◌∙◌, subst, last_place, listed, CanUndo}
use Rattle.pana_hall.specs.inner.Next.{is_edit}
use Rattle.pana_hall.proofs.Ready.{as_is, opened, can_undo, undone_spots, family_confirmed, family_withdrawn, spots_confirm}
use Rattle.pana_hall.proofs.recording.settle.Goals as goal

pub withdraw-requires-clause-undo : goal.withdraw-requires-clause-undo
withdraw-requires-clause-undo c =
    let ready = as_is c.requires.ready c.in-Withdraw.is in
    let o = opened ready in
    let both : Some o.ends.last ≡ Some c.unwrap-kept.result = sym o.ends.at ∙ sym c.entry.ensures ∙ c.unwrap-kept.ensures in
    let last : o.ends.last ≡ c.unwrap-kept.result = cc in
    let same : o.ends.last.report ≡ c.report.result.now = ap (λ e. e.report) last ∙ sym c.report.ensures in
    subst (λ r. CanUndo c.in-Withdraw.entry r (listed c.args.it.now).number (last_place (listed c.args.it.now).undo) c.args.copies.now) same (can_undo ready)

pub withdraw-requires-clause-room : goal.withdraw-requires-clause-room
withdraw-requires-clause-room c = c.requires.room (ap is_edit c.in-Withdraw.is)

pub returns-in-Confirm-clause-family : goal.returns-in-Confirm-clause-family
returns-in-Confirm-clause-family c = family_confirmed c.requires.ready c.in-Confirm.is (listed c.confirm.new.self) c.confirm.ensures

pub returns-in-Confirm-clause-spots : goal.returns-in-Confirm-clause-spots
returns-in-Confirm-clause-spots c = spots_confirm c.requires.ready c.in-Confirm.is

pub returns-in-Withdraw-clause-family : goal.returns-in-Withdraw-clause-family
returns-in-Withdraw-clause-family c = family_withdrawn c.requires.ready c.in-Withdraw.is (listed c.withdraw.new.it) c.withdraw.ensures.family

pub returns-in-Withdraw-clause-spots : goal.returns-in-Withdraw-clause-spots
returns-in-Withdraw-clause-spots c =
    let ready = as_is c.requires.ready c.in-Withdraw.is in
    let o = opened ready in
    grind (arith, nat_tests, undone_spots, c.in-Withdraw.is, c.withdraw.ensures.spots)
