-- A query changes nothing.
use Rattle.std.proofs.Common.{◌≡◌, List, sym, ◌∙◌, subst}
use Rattle.pana_journal.specs.declared.entry.Entry.{Entry}
use Rattle.pana_calls.specs.declared.call.Call.{Call}
use Rattle.pana_calls.specs.declared.call.Call.TheVariants as calls
use Rattle.pana_calls.specs.declared.answer.Answer.TheVariants.{Given}
use Rattle.pana_store.specs.Store.{StoreView, Gathers}
use Rattle.pana_store.specs.inner.{store_of, IsStore}
use Rattle.pana_store.proofs.Calls.{after_query}
use Rattle.pana_store.proofs.Gathered.{replied}
use Rattle.pana_store.proofs.store.StoreSession.call.Goals as goal

pub invariant_of-self : goal.invariant_of-self
invariant_of-self g c =
    let it = c.self.inside in
    let same : c.apply.new.self ≡ it.hall = c.apply.ensures.journal ∙ after_query it.hall c.args.by.now c.in-Query.query c.apply.result in
    subst (λ (es : List Entry). IsStore g.D.Device.is_known g.D.Device.seen g.D.Device.may_leave g.D.Device.is_usable es it.log it.sealer it.pending) (sym same) c.self.invariant

pub returns-in-Query-clause-step : goal.returns-in-Query-clause-step
returns-in-Query-clause-step g c =
    let it = c.self.inside in
    let by = c.args.by.now in
    let reply = c.apply.result in
    let new : StoreView g.row.D.Denot = store_of c.apply.new.self it.log it.sealer it.pending in
    let same : c.apply.new.self ≡ it.hall = c.apply.ensures.journal ∙ after_query it.hall by c.in-Query.query reply in
    let P : StoreView g.row.D.Denot → Type 0 = λ v. Gathers g.D.Device.is_known g.D.Device.seen g.D.Device.may_leave g.D.Device.is_usable g.D.Device.moment g.D.Device.left_since g.D.Device.has_failed v by c.args.call (Given reply) new in
    let Q : Call → Type 0 = λ call. Gathers g.D.Device.is_known g.D.Device.seen g.D.Device.may_leave g.D.Device.is_usable g.D.Device.moment g.D.Device.left_since g.D.Device.has_failed (store_of it.hall it.log it.sealer it.pending) by call (Given reply) new in
    subst P c.self.view_is (subst Q (sym c.in-Query.is)
    (replied g.D.Device.is_known g.D.Device.seen g.D.Device.may_leave g.D.Device.is_usable g.D.Device.moment g.D.Device.left_since g.D.Device.has_failed it.hall c.apply.new.self it.log it.sealer it.pending by (calls.Query c.in-Query.query) reply same tt c.self.invariant (g.met.D.Device.only_now it.log.device) (c.apply.ensures.permitted, c.apply.ensures.journal)).gathers)
