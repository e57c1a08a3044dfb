use Rattle.pana_hall.proofs.Words.{◌≡◌, true, is_of_copies, IsStepOf, ◌+◌, refl, subst, sym, listed, living, next_entry, earlier_of}
use Rattle.pana_hall.specs.inner.Listed.{IsPreparedAfter, IsPreparedFor}
use Rattle.pana_hall.proofs.Ready.{can_place, family_reported, reports_copies, spots_reported}
use Rattle.pana_hall.proofs.Twice.{after_step, never_after}
use Rattle.pana_hall.proofs.recording.change_family.Goals as goal

pub apply_change-requires-clause-change : goal.apply_change-requires-clause-change
apply_change-requires-clause-change c =
    let step = subst (IsStepOf (next_entry c.args.journal.now.entries c.args.by.now c.args.report.now) c.args.it.now (living c.args.journal.now.entries)) c.in-Change.is c.requires.step in
    (step.0, step.1, subst (λ n. IsPreparedFor (n + 1) step.0 c.in-Change.change c.args.it.now) (sym c.length.ensures.length) step.2)

pub apply_change-requires-clause-place : goal.apply_change-requires-clause-place
apply_change-requires-clause-place c = (subst (IsStepOf (next_entry c.args.journal.now.entries c.args.by.now c.args.report.now) c.args.it.now (living c.args.journal.now.entries)) c.in-Change.is c.requires.step).3

pub apply_change-requires-clause-can : goal.apply_change-requires-clause-can
apply_change-requires-clause-can c = can_place c.requires.ready c.length.result c.length.ensures.length c.args.report.now refl

pub returns-in-Change-clause-family : goal.returns-in-Change-clause-family
returns-in-Change-clause-family c =
    let step = subst (IsStepOf (next_entry c.args.journal.now.entries c.args.by.now c.args.report.now) c.args.it.now (living c.args.journal.now.entries)) c.in-Change.is c.requires.step in
    family_reported c.requires.ready step.1 c.length.result c.length.ensures.length (listed c.apply_change.new.it) (earlier_of c.in-Change.before) step.4 c.apply_change.ensures.family (reports_copies c.args.report.now step.1)

pub returns-in-Change-clause-spots : goal.returns-in-Change-clause-spots
returns-in-Change-clause-spots c =
    let step = subst (IsStepOf (next_entry c.args.journal.now.entries c.args.by.now c.args.report.now) c.args.it.now (living c.args.journal.now.entries)) c.in-Change.is c.requires.step in
    spots_reported c.requires.ready (reports_copies c.args.report.now step.1) c.length.result c.length.ensures.length c.apply_change.new.copies c.apply_change.ensures.spots

pub returns-in-Change-clause-behind : goal.returns-in-Change-clause-behind
returns-in-Change-clause-behind c = λ entry lives later is.
    after_step (next_entry c.args.journal.now.entries c.args.by.now c.args.report.now) entry c.args.it.now c.apply_change.new.it lives later
    (λ of second other about after. c.apply_change.ensures.behind of second entry.number other about
    (subst (λ n. IsPreparedAfter (n + 1) of entry.number second other c.args.it.now) (sym c.length.ensures.length) after)) is

pub settle-requires-clause-settles : goal.settle-requires-clause-settles
settle-requires-clause-settles c = (subst (IsStepOf (next_entry c.args.journal.now.entries c.args.by.now c.args.report.now) c.args.it.now (living c.args.journal.now.entries)) c.in-Settle.is c.requires.step).0

pub settle-requires-clause-grown : goal.settle-requires-clause-grown
settle-requires-clause-grown c = (subst (IsStepOf (next_entry c.args.journal.now.entries c.args.by.now c.args.report.now) c.args.it.now (living c.args.journal.now.entries)) c.in-Settle.is c.requires.step).1

pub returns-in-Settle-clause-behind : goal.returns-in-Settle-clause-behind
returns-in-Settle-clause-behind c = λ entry lives later is.
    let own = next_entry c.args.journal.now.entries c.args.by.now c.args.report.now in
    let settles = (subst (IsStepOf own c.args.it.now (living c.args.journal.now.entries)) c.in-Settle.is c.requires.step).0 in
    absurd (never_after own entry c.args.it.now lives later (λ of about. absurd (let copies : is_of_copies c.args.report.now ≡ true = reports_copies c.args.report.now about in cc)) is)
