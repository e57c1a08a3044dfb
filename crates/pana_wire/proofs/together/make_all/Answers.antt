-- The calls are made, and those that have answers are answered.
use Rattle.std.proofs.Common.{◌≡◌, List, ℕ, [], Option, sym, subst, length}
use Rattle.std.proofs.lemmas.Result.{err_from_is_err_and}
use Rattle.pana_calls.specs.declared.answer.Answer.{Answer}
use Rattle.pana_calls.specs.Session.{AddsAll, AddsSome}
use Rattle.pana_wire.specs.declared.fault.WireFault.{WireFault}
use Rattle.pana_wire.specs.declared.serving.ServeFault.{ServeFault}
use Rattle.pana_wire.specs.inner.Rounds.{AreRead, AreTold, RoundView, StopsAt}
use Rattle.pana_wire.specs.Session.{AnswersLines}
use Rattle.pana_wire.proofs.Rounds.{all_failed, all_told, makes_so, some_told}
use Rattle.pana_wire.proofs.together.make_all.Goals as goal

-- what is said of slices
told_in : (fs gs : List (Option WireFault)) (xs ys : List Answer) (text : List ℕ) (left : List Answer) → fs ≡ gs → xs ≡ ys → AreTold fs xs text [] left → AreTold gs ys text [] left
told_in fs gs xs ys text left faults answers told = subst (λ (l : List (Option WireFault)). AreTold l ys text [] left) faults (subst (λ (l : List Answer). AreTold fs l text [] left) answers told)

stops_in : (fs gs : List (Option WireFault)) (xs ys : List Answer) (text : List ℕ) (why : ServeFault) → fs ≡ gs → xs ≡ ys → StopsAt fs xs text why → StopsAt gs ys text why
stops_in fs gs xs ys text why faults answers stops = subst (λ (l : List (Option WireFault)). StopsAt l ys text why) faults (subst (λ (l : List Answer). StopsAt fs l text why) answers stops)

pub returns-in_err-write_texts-clause-fault : goal.returns-in_err-write_texts-clause-fault
returns-in_err-write_texts-clause-fault g c =
    let step = g.S.Session.step in
    let fails = g.S.Session.fails in
    let inside = c.round.inside in
    let none = c.round.invariant.5 in
    let p = err_from_is_err_and c.from_residual.result c.from_residual.ensures.1 in
    let makes = makes_so step fails c.call_all-made.result c.args.session.now inside.messages.items inside.answers.items c.call_all-made.new.answers.items c.call_all-made.new.self none c.call_all-made.ensures.step c.call_all-made.ensures.fails in
    rw (p.1, p.2) (λ lines read.
    some_told step fails c.args.session.now lines inside.messages.items inside.faults.items c.call_all-made.new.answers.items _ c.in_err-write_texts.field-0.0 c.call_all-made.new.self makes (stops_in c.as_slice.result.now inside.faults.items c.as_slice-2.result.now c.call_all-made.new.answers.items _ _ c.as_slice.ensures.value c.as_slice-2.ensures.value c.in_err-write_texts.ensures.fault)
    (subst (λ (r : RoundView). AreRead lines r.messages r.faults) (sym c.round.view_is) read))

pub returns-in-Ok-clause-ok : goal.returns-in-Ok-clause-ok
returns-in-Ok-clause-ok g c lines read =
    let step = g.S.Session.step in
    let fails = g.S.Session.fails in
    let inside = c.round.inside in
    let none = c.round.invariant.5 in
    let new = c.call_all-made.new.self in
    let given = c.call_all-made.new.answers.items in
    let (left, told_slices) = c.in_ok-write_texts.ensures.ok in
    let told = told_in c.as_slice.result.now inside.faults.items c.as_slice-2.result.now given c.write_texts.new.texts.items left c.as_slice.ensures.value c.as_slice-2.ensures.value told_slices in
    let all = subst (λ (answers : List Answer). AddsAll step c.args.session.now inside.messages.items answers given new) none c.in-Ok.ensures.step in
    subst (λ (r : RoundView). AnswersLines step c.args.session.now lines c.write_texts.new.texts.items new (length r.messages)) c.round.view_is
    (all_told step fails c.args.session.now lines inside.messages.items inside.faults.items given c.write_texts.new.texts.items left new all told
    (subst (λ (r : RoundView). AreRead lines r.messages r.faults) (sym c.round.view_is) read))

pub returns-clause-fault : goal.returns-clause-fault
returns-clause-fault g c lines read =
    let step = g.S.Session.step in
    let fails = g.S.Session.fails in
    let inside = c.round.inside in
    let none = c.round.invariant.5 in
    let new = c.call_all-made.new.self in
    let given = c.call_all-made.new.answers.items in
    let (left, told_slices) = c.in_ok-write_texts.ensures.ok in
    let told = told_in c.as_slice.result.now inside.faults.items c.as_slice-2.result.now given c.write_texts.new.texts.items left c.as_slice.ensures.value c.as_slice-2.ensures.value told_slices in
    let some = subst (λ (answers : List Answer). AddsSome step fails c.args.session.now inside.messages.items answers given new) none c.in-Err.ensures.fails in
    all_failed step fails c.args.session.now lines inside.messages.items inside.faults.items given c.write_texts.new.texts.items left new some told
    (subst (λ (r : RoundView). AreRead lines r.messages r.faults) (sym c.round.view_is) read)
