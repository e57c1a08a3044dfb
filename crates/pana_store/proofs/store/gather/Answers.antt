-- The entries wait, or there are none.
use Rattle.std.proofs.Common.{◌≡◌, ◌∷◌, ◌++◌, ◌≤◌, List, Option, length, sym, ap, subst, ◌∙◌, arith}
use Rattle.std.specs.Prelude.{option_copied, option_to_list}
use Rattle.pana_journal.specs.declared.entry.Entry.{Entry}
use Rattle.pana_calls.specs.declared.reply.Reply.{Reply}
use Rattle.pana_hall.specs.Prepared.{Prepares, AnswersAt, entries_of}
use Rattle.pana_calls.specs.declared.answer.Answer.{Answer}
use Rattle.pana_calls.specs.declared.answer.Answer.TheVariants.{Given}
use Rattle.pana_store.specs.Store.{GathersOnly, stored}
use Rattle.pana_store.specs.inner.{IsWaiting, IsStore, store_of, waiting_of}
use Rattle.pana_store.proofs.Calls.{ready, needs_open}
use Rattle.pana_store.proofs.Gathered.{store_more, store_still, gathered, not_gathered, replied}
use Rattle.pana_store.proofs.Waiting.{at_most_one}
use Rattle.pana_store.proofs.store.gather.Goals as goal

pub returns-in-Ok-add-clause-store : goal.returns-in-Ok-add-clause-store
returns-in-Ok-add-clause-store g c =
    let es = c.args.hall.now in
    let p = c.args.pending.now in
    let next = c.in-Ok.prepared in
    let more : List Entry = entries_of next in
    let same : next.journal ≡ es = c.in-Ok.ensures.ok.journal ∙ c.take_all.ensures.taken in
    let are : c.entry.result.now ∷ option_to_list (option_copied c.second.result) ≡ more =
    ap (λ (e : Entry). e ∷ option_to_list (option_copied c.second.result)) c.entry.ensures ∙ ap (λ (o : Option Entry). next.entry ∷ option_to_list o) c.second.ensures in
    let w : IsWaiting c.args.sealer.now (waiting_of es p ++ more) c.add.new.pending =
    subst (λ (xs : List Entry). IsWaiting c.args.sealer.now (waiting_of es p ++ xs) c.add.new.pending) are (c.in-Ok-add.ensures.ok (waiting_of es p) (c.requires.store.waits c.requires.open)) in
    let two : length more ≤ 2 = omega (arith, at_most_one next.second) in
    subst (λ (xs : List Entry). IsStore g.D.Device.is_known g.D.Device.seen g.D.Device.may_leave g.D.Device.is_usable xs c.add.new.log c.args.sealer.now c.add.new.pending) (sym (c.commit_into.ensures.hall ∙ ap (λ (xs : List Entry). xs ++ more) same))
    (store_more g.D.Device.is_known g.D.Device.seen g.D.Device.may_leave g.D.Device.is_usable es more c.args.log.now c.add.new.log c.args.sealer.now p c.add.new.pending c.requires.store c.requires.open c.requires.few two w c.add.ensures.settled c.add.ensures.same c.add.ensures.behind)

pub returns-in-Ok-add-clause-step : goal.returns-in-Ok-add-clause-step
returns-in-Ok-add-clause-step g c =
    let es = c.args.hall.now in
    let p = c.args.pending.now in
    let by = c.args.by.now in
    let call = c.args.call in
    let next = c.in-Ok.prepared in
    let more : List Entry = entries_of next in
    let old = store_of es c.args.log.now c.args.sealer.now p in
    let same : next.journal ≡ es = c.in-Ok.ensures.ok.journal ∙ c.take_all.ensures.taken in
    let are : c.entry.result.now ∷ option_to_list (option_copied c.second.result) ≡ more =
    ap (λ (e : Entry). e ∷ option_to_list (option_copied c.second.result)) c.entry.ensures ∙ ap (λ (o : Option Entry). next.entry ∷ option_to_list o) c.second.ensures in
    let w : IsWaiting c.args.sealer.now (waiting_of es p ++ more) c.add.new.pending =
    subst (λ (xs : List Entry). IsWaiting c.args.sealer.now (waiting_of es p ++ xs) c.add.new.pending) are (c.in-Ok-add.ensures.ok (waiting_of es p) (c.requires.store.waits c.requires.open)) in
    let prepares : Prepares es by call next = subst (λ (j : List Entry). Prepares j by call next) c.take_all.ensures.taken c.in-Ok.ensures.ok in
    subst (λ (xs : List Entry). GathersOnly g.D.Device.is_known g.D.Device.seen g.D.Device.may_leave g.D.Device.is_usable g.D.Device.moment g.D.Device.left_since g.D.Device.has_failed old by call (Given c.commit_into.result) (store_of xs c.add.new.log c.args.sealer.now c.add.new.pending)) (sym (c.commit_into.ensures.hall ∙ ap (λ (xs : List Entry). xs ++ more) same))
    (subst (λ (reply : Reply). GathersOnly g.D.Device.is_known g.D.Device.seen g.D.Device.may_leave g.D.Device.is_usable g.D.Device.moment g.D.Device.left_since g.D.Device.has_failed old by call (Given reply) (store_of (es ++ more) c.add.new.log c.args.sealer.now c.add.new.pending)) (sym c.commit_into.ensures.reply)
    (gathered g.D.Device.is_known g.D.Device.seen g.D.Device.may_leave g.D.Device.is_usable g.D.Device.moment g.D.Device.left_since g.D.Device.has_failed es more c.args.log.now c.add.new.log c.args.sealer.now p c.add.new.pending by call next.reply (ready es by call next prepares) c.requires.open c.add.ensures.state c.requires.store w
    c.add.ensures.settled c.add.ensures.same c.add.ensures.any_moment))

pub returns-in-Err-add-clause-store : goal.returns-in-Err-add-clause-store
returns-in-Err-add-clause-store g c =
    let es = c.args.hall.now in
    let p = c.args.pending.now in
    let same : c.cancel_into.new.hall ≡ es = c.cancel_into.ensures ∙ c.in-Ok.ensures.ok.journal ∙ c.take_all.ensures.taken in
    subst (λ (xs : List Entry). IsStore g.D.Device.is_known g.D.Device.seen g.D.Device.may_leave g.D.Device.is_usable xs c.add.new.log c.args.sealer.now c.add.new.pending) (sym same)
    (store_still g.D.Device.is_known g.D.Device.seen g.D.Device.may_leave g.D.Device.is_usable es c.args.log.now c.add.new.log c.args.sealer.now p c.add.new.pending c.requires.store c.requires.open (c.in-Err-add.ensures.err (waiting_of es p) (c.requires.store.waits c.requires.open))
    c.add.ensures.settled c.add.ensures.same c.add.ensures.behind)

pub returns-in-Err-add-clause-step : goal.returns-in-Err-add-clause-step
returns-in-Err-add-clause-step g c =
    let es = c.args.hall.now in
    let p = c.args.pending.now in
    let by = c.args.by.now in
    let call = c.args.call in
    let next = c.in-Ok.prepared in
    let old = store_of es c.args.log.now c.args.sealer.now p in
    let same : c.cancel_into.new.hall ≡ es = c.cancel_into.ensures ∙ c.in-Ok.ensures.ok.journal ∙ c.take_all.ensures.taken in
    let prepares : Prepares es by call next = subst (λ (j : List Entry). Prepares j by call next) c.take_all.ensures.taken c.in-Ok.ensures.ok in
    subst (λ (xs : List Entry). GathersOnly g.D.Device.is_known g.D.Device.seen g.D.Device.may_leave g.D.Device.is_usable g.D.Device.moment g.D.Device.left_since g.D.Device.has_failed old by call c.answer_to.result (store_of xs c.add.new.log c.args.sealer.now c.add.new.pending)) (sym same)
    (subst (λ (answer : Answer). GathersOnly g.D.Device.is_known g.D.Device.seen g.D.Device.may_leave g.D.Device.is_usable g.D.Device.moment g.D.Device.left_since g.D.Device.has_failed old by call answer (store_of es c.add.new.log c.args.sealer.now c.add.new.pending)) (sym c.answer_to.ensures)
    (not_gathered g.D.Device.is_known g.D.Device.seen g.D.Device.may_leave g.D.Device.is_usable g.D.Device.moment g.D.Device.left_since g.D.Device.has_failed es (entries_of next) c.args.log.now c.add.new.log c.args.sealer.now p c.add.new.pending by call next.reply c.in-Err-add.fault (ready es by call next prepares) c.requires.open c.add.ensures.state
    c.in-Err-add.ensures.cause c.requires.store (c.in-Err-add.ensures.err (waiting_of es p) (c.requires.store.waits c.requires.open)) c.add.ensures.settled c.add.ensures.same c.add.ensures.any_moment))

pub returns-in-Err-clause-step : goal.returns-in-Err-clause-step
returns-in-Err-clause-step g c =
    let es = c.args.hall.now in
    let p = c.args.pending.now in
    let by = c.args.by.now in
    let call = c.args.call in
    let reply = c.in-Err.field-0.reply in
    let same : c.put_into.new.hall ≡ es = c.put_into.ensures ∙ c.in-Err.ensures.hall ∙ c.take_all.ensures.taken in
    let at : AnswersAt es by call reply = subst (λ (j : List Entry). AnswersAt j by call reply) c.take_all.ensures.taken c.in-Err.ensures.reply in
    replied g.D.Device.is_known g.D.Device.seen g.D.Device.may_leave g.D.Device.is_usable g.D.Device.moment g.D.Device.left_since g.D.Device.has_failed es c.put_into.new.hall c.args.log.now c.args.sealer.now p by call reply same
    (needs_open (stored (store_of es c.args.log.now c.args.sealer.now p)) call c.requires.open) c.requires.store (g.met.D.Device.only_now c.args.log.now.device) (at.permitted, same ∙ sym at.same)

pub returns-in-Err-clause-store : goal.returns-in-Err-clause-store
returns-in-Err-clause-store g c =
    let same : c.put_into.new.hall ≡ c.args.hall.now = c.put_into.ensures ∙ c.in-Err.ensures.hall ∙ c.take_all.ensures.taken in
    subst (λ (xs : List Entry). IsStore g.D.Device.is_known g.D.Device.seen g.D.Device.may_leave g.D.Device.is_usable xs c.args.log.now c.args.sealer.now c.args.pending.now) (sym same) c.requires.store
