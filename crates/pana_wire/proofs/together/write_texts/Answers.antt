-- One line's text more is added.
use Rattle.std.proofs.Common.{◌≡◌, ℕ, ◌+◌, ◌<◌, List, Option, None, [], ◌∷◌, length, drop, drop-cons, get_or, add-one, refl, sym, ap, subst, ◌∙◌, arith}
use Rattle.std.proofs.lemmas.Result.{err_from_is_err_and}
use Rattle.pana_wire.specs.declared.fault.WireFault.{WireFault}
use Rattle.pana_wire.specs.inner.Rounds.{AreTold}
use Rattle.pana_wire.proofs.Rounds.{lacks_out, told_more}
use Rattle.pana_wire.proofs.together.write_texts.Goals as goal

next_fault : (fs : List (Option WireFault)) (i : ℕ) → i < length fs → drop i fs ≡ get_or fs i None ∷ drop (i + 1) fs
next_fault fs i within = drop-cons fs i None within ∙ ap (λ (k : ℕ). get_or fs i None ∷ drop k fs) (sym (add-one i))

pub loop-fault-init : goal.loop-fault-init
loop-fault-init c = record { done = []; told = []; lines = refl; answered = refl; texts = c.requires }

pub returns-in_err-left-clause-fault : goal.returns-in_err-left-clause-fault
returns-in_err-left-clause-fault c =
    let fs = c.args.faults.now in
    let given = c.args.answers.now in
    let i = c.loop-fault.fault-index in
    let left = c.loop-fault.left.now in
    let within : i < length fs = omega arith in
    let here = subst (λ (rest : List (Option WireFault)). AreTold fs given c.loop-fault.texts.items rest left) (next_fault fs i within) c.loop-fault.invariant in
    let p = err_from_is_err_and c.from_residual.result c.from_residual.ensures.1 in
    rw (p.1, p.2) (record {
      fault = get_or fs i None;
      rest = drop (i + 1) fs;
      left = left;
      told = subst (λ (text : List ℕ). AreTold fs given text (get_or fs i None ∷ drop (i + 1) fs) left) (sym c.in_err-left.ensures.err) here;
      lacks = c.in_err-left.ensures.fault;
    })

pub returns-in_err-left-clause-out : goal.returns-in_err-left-clause-out
returns-in_err-left-clause-out c =
    let p = err_from_is_err_and c.from_residual.result c.from_residual.ensures.1 in
    rw (p.1, p.2) (lacks_out (get_or c.args.faults.now c.loop-fault.fault-index None) c.loop-fault.left.now c.in_err-left.field-0.0 c.in_err-left.ensures.fault)

pub loop-fault-preserved : goal.loop-fault-preserved
loop-fault-preserved c =
    let fs = c.args.faults.now in
    let given = c.args.answers.now in
    let i = c.loop-fault.fault-index in
    let left = c.loop-fault.left.now in
    let within : i < length fs = omega arith in
    let here = subst (λ (rest : List (Option WireFault)). AreTold fs given c.loop-fault.texts.items rest left) (next_fault fs i within) c.loop-fault.invariant in
    told_more fs given c.loop-fault.texts.items c.write_one.new.texts.items (get_or fs i None) (drop (i + 1) fs) left c.in_ok-left.left.now here c.in_ok-left.ensures.ok
