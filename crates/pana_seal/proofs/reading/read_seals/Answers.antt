use Rattle.std.proofs.Common.{◌≡◌, ◌∙◌, ℕ, Bool, ◌||◌, List, [], take, get_or, refl, sym, ap, arith}
use Rattle.std.specs.Borrow.{Bor}
use Rattle.std.specs.List.{list_any}
use Rattle.pana_log.specs.Lines.{text_of}
use Rattle.pana_wire.specs.Lines.{texts}
use Rattle.pana_seal.specs.Seal.{is_marked, demands_seals}
use Rattle.pana_seal.proofs.Intact.{intact_none, intact_next, covers_next, due_next, damaged_at, good_sealed, bad_due, either_like}
use Rattle.pana_seal.proofs.reading.read_seals.Goals.{then-is_due, else-is_due}
use Rattle.pana_seal.proofs.reading.read_seals.Goals as goal

none : Bor (List ℕ)
none = record { ref_ptr = (0, 0); now = [] }

pub loop-index-init : goal.loop-index-init
loop-index-init c = record { covers = c.new-sealer.ensures; intact = intact_none; due = refl }

pub returns-then-not-branch-clause-fault : goal.returns-then-not-branch-clause-fault
unfolding none
returns-then-not-branch-clause-fault c =
    let so_far = c.loop-index.invariant in
    let lines = c.args.lines.now in
    let before = text_of (texts (take c.loop-index.index lines)) in
    let marked = is_marked (get_or lines c.loop-index.index none).now in
    let bad = bad_due c.loop-index.is_due marked _ (sym c.if-not-branch.true ∙ c.in_ok-take_line.ensures.good before so_far.covers) in
    damaged_at lines c.loop-index.index none (omega arith) so_far.intact (either_like c.loop-index.is_due (list_any demands_seals (texts (take c.loop-index.index lines))) marked so_far.due bad.0) bad.1

pub loop-index-preserved : goal.loop-index-preserved
unfolding none
loop-index-preserved c =
    let so_far = c.loop-index.invariant in
    let lines = c.args.lines.now in
    let index = c.loop-index.index in
    let before = text_of (texts (take index lines)) in
    let line = (get_or lines index none).now in
    let good = sym c.if-not-branch.false ∙ c.in_ok-take_line.ensures.good before so_far.covers in
    let due : c.if-is_due.is_due ≡ (c.loop-index.is_due || demands_seals line) = elim c.if-is_due.branch [
      | then-is_due w ↦ w.is_due-is ∙ w.if-is_due.true ∙ sym (ap (λ (b : Bool). b || demands_seals line) w.if-is_due.true)
      | else-is_due w ↦ w.is_due-is ∙ w.demands_seals-is_due.ensures ∙ sym (ap (λ (b : Bool). b || demands_seals line) w.if-is_due.false)
    ] in
    record {
      covers = covers_next lines index none c.push.new.self (omega arith) (c.push.ensures _ (c.in_ok-take_line.ensures.covers before so_far.covers));
      intact = intact_next lines index none (omega arith) so_far.intact (λ is. good_sealed c.loop-index.is_due (is_marked line) _ good (either_like (list_any demands_seals (texts (take index lines))) c.loop-index.is_due (is_marked line) (sym so_far.due) is));
      due = due ∙ due_next lines index none c.loop-index.is_due (demands_seals line) (omega arith) so_far.due refl;
    }
