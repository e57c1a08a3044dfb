use Rattle.pana_hall.proofs.Words.{nat_tests, ◌≡◌, ◌+◌, [], ◌∷◌, ◌++◌, length, sym, ap, ◌∙◌, subst, arith, kept, None, family_report, next_entry, AreSpots, families_of}
use Rattle.pana_hall.proofs.Listed.{begins, found_set, fresh_register, free_register, listed_push, listed_set, position_within, ready_at, spots_register, step_takes, takes_at, takes_later}
use Rattle.pana_hall.specs.inner.Next.{is_edit}
use Rattle.pana_hall.proofs.Twice.{after_at, never_after}
use Rattle.pana_hall.proofs.recording.make_step.Goals as goal

pub begin-requires-clause-fresh : goal.begin-requires-clause-fresh
begin-requires-clause-fresh c =
    let b = begins c.args.list.now.items _ _ _ c.requires.ready c.in-Begin.is c.requires.step in
    ap (λ n. kept c.args.copies.now (n + 1)) c.length.ensures.length ∙ fresh_register b.ready

pub begin-requires-clause-free : goal.begin-requires-clause-free
begin-requires-clause-free c = free_register (begins c.args.list.now.items _ _ _ c.requires.ready c.in-Begin.is c.requires.step).ready

pub begin-requires-clause-more : goal.begin-requires-clause-more
begin-requires-clause-more c = (begins c.args.list.now.items _ _ _ c.requires.ready c.in-Begin.is c.requires.step).more

pub begin-requires-clause-room : goal.begin-requires-clause-room
begin-requires-clause-room c = c.requires.room (ap is_edit (begins c.args.list.now.items _ _ _ c.requires.ready c.in-Begin.is c.requires.step).is)

pub returns-in-Begin-clause-list : goal.returns-in-Begin-clause-list
returns-in-Begin-clause-list c =
    let b = begins c.args.list.now.items _ _ _ c.requires.ready c.in-Begin.is c.requires.step in
    c.begin.ensures.list ∙ listed_push b.ready c.length.result c.length.ensures.length ∙ ap (λ r. families_of (c.args.journal.now.entries ++ next_entry c.args.journal.now.entries c.args.by.now r ∷ [])) (sym b.is)

pub returns-in-Begin-clause-spots : goal.returns-in-Begin-clause-spots
returns-in-Begin-clause-spots c =
    let b = begins c.args.list.now.items _ _ _ c.requires.ready c.in-Begin.is c.requires.step in
    subst (λ r. AreSpots (c.args.journal.now.entries ++ next_entry c.args.journal.now.entries c.args.by.now r ∷ []) c.begin.new.copies) (sym b.is) (spots_register b.ready c.length.result c.length.ensures.length c.begin.new.copies c.begin.ensures.spots)

pub returns-in-Begin-clause-behind : goal.returns-in-Begin-clause-behind
returns-in-Begin-clause-behind c = λ entry lives later after.
    let b = begins c.args.list.now.items _ _ _ c.requires.ready c.in-Begin.is c.requires.step in
    absurd (never_after (next_entry c.args.journal.now.entries c.args.by.now c.args.report.now) entry after.it lives later (λ of about. absurd (let none : family_report c.args.report.now ≡ None = ap family_report b.is in cc)) after.is)

pub index_mut-requires : goal.index_mut-requires
index_mut-requires c =
    let takes = step_takes _ _ _ _ _ _ c.args.step c.in_default.not-Begin c.requires.step in
    let within = position_within c.args.list.now.items c.requires.ready (takes_later takes) in
    let same : length c.as_slice.result.now ≡ length c.args.list.now.items = ap length c.as_slice.ensures.value in
    omega (arith, c.as_slice.ensures.len)

pub change_family-requires-clause-ready : goal.change_family-requires-clause-ready
change_family-requires-clause-ready c =
    let takes = step_takes _ _ _ _ _ _ c.args.step c.in_default.not-Begin c.requires.step in
    ready_at c.args.list.now.items c.requires.ready (takes_later takes) c.index_mut.result.now c.index_mut.result.now c.index_mut.ensures.value

pub change_family-requires-clause-step : goal.change_family-requires-clause-step
change_family-requires-clause-step c = grind (arith, nat_tests, step_takes, takes_at, c.requires.step, c.index_mut.ensures.value)

pub returns-in_default-clause-list : goal.returns-in_default-clause-list
returns-in_default-clause-list c =
    let takes = step_takes _ _ _ _ _ _ c.args.step c.in_default.not-Begin c.requires.step in
    listed_set c.args.list.now.items c.requires.ready (takes_later takes) c.index_mut.result.now c.index_mut.result.now c.change_family.new.it c.index_mut.ensures.value c.change_family.ensures.family

pub returns-in_default-clause-spots : goal.returns-in_default-clause-spots
returns-in_default-clause-spots c = c.change_family.ensures.spots

pub returns-in_default-clause-behind : goal.returns-in_default-clause-behind
returns-in_default-clause-behind c = λ entry lives later after.
    let takes = step_takes _ _ _ _ _ _ c.args.step c.in_default.not-Begin c.requires.step in
    record {
      it = c.change_family.new.it;
      found = found_set c.args.list.now.items c.requires.ready (takes_later takes) c.change_family.new.it;
      is = c.change_family.ensures.behind entry lives later (after_at after c.index_mut.result.now c.index_mut.result.now c.index_mut.ensures.value);
    }
