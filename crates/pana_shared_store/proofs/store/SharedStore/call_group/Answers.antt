use Rattle.std.proofs.Common.{◌≡◌, List, length, take, take_at, refl, sym, ap, subst, ◌∙◌, Some}
use Rattle.std.specs.Prelude.{is_some}
use Rattle.pana_calls.specs.declared.answer.Answer.{Answer}
use Rattle.pana_calls.specs.Session.{AddsSome}
use Rattle.pana_shared_store.specs.declared.grouping.Grouped.{Grouped}
use Rattle.pana_shared_store.specs.Store.{Makes, StoreView, Why, foreign_of}
use Rattle.pana_shared_store.specs.inner.Groups.{FailsFor, Groups, moment_of, shown}
use Rattle.pana_shared_store.proofs.Together.{calls_fail, calls_made, waits_none, why_here}
use Rattle.pana_shared_store.proofs.store.SharedStore.call_group.Goals as goal

pub returns-then-not-may_group-clause-ok : goal.returns-then-not-may_group-clause-ok
returns-then-not-may_group-clause-ok g c = (waits_none g.L.SharedLog.is_known c.args.self.now c.may_group.ensures.store c.requires.whole, refl)

pub returns-in-Ok-Made-clause-ok : goal.returns-in-Ok-Made-clause-ok
returns-in-Ok-Made-clause-ok g c =
    calls_made g.L.SharedLog.is_known c.args.self.now c.make_some.new.self c.args.calls.now c.args.answers.now.items c.make_some.new.answers.items c.requires.whole (c.make_some.ensures.broken ∙ c.requires.whole) c.make_some.ensures.stale c.in-Ok-Made.count
    (subst (λ (d : Grouped). Groups g.L.SharedLog.is_known c.args.self.now.is_stale (moment_of c.args.self.now) c.args.calls.now c.args.answers.now.items d (moment_of c.make_some.new.self) c.make_some.new.answers.items) c.in-Ok-Made.field-0-is c.in-Ok-Made.ensures.ok)

pub returns-in-Err-clause-err : goal.returns-in-Err-clause-err
returns-in-Err-clause-err g c =
    let more = c.make_some.ensures.more in
    let before : length c.args.answers.now.items ≡ c.len-given.result = sym c.args.answers.now.ok.0 ∙ sym c.len-given.ensures in
    let same : c.truncate-in-Err.new.self.items ≡ c.args.answers.now.items = c.truncate-in-Err.ensures.items ∙ ap (λ (l : List Answer). take c.len-given.result l) more.1 ∙ take_at c.args.answers.now.items more.0 c.len-given.result before in
    let mid = c.make_some.new.self in
    let new : StoreView = record { entries = shown c.self.inside.hall c.self.inside.kept; seen = g.L.SharedLog.seen c.self.inside.log; silences = g.L.SharedLog.silences c.self.inside.log; turn = c.self.inside.turn; broken = is_some (foreign_of (Some c.in-Err.fault)); fault = Some c.in-Err.fault; is_stale = c.self.inside.is_stale } in
    subst (λ (l : List Answer). AddsSome (Makes g.L.SharedLog.is_known) (FailsFor g.L.SharedLog.is_known) c.args.self.now c.args.calls.now c.args.answers.now.items l new) (sym same)
    (calls_fail g.L.SharedLog.is_known c.args.self.now mid new c.args.calls.now c.args.answers.now.items c.in-Err.fault c.requires.whole c.in-Err.ensures.err (ap moment_of c.self.view_is) c.make_some.ensures.turn (ap (λ (v : StoreView). v.is_stale) c.self.view_is ∙ c.make_some.ensures.stale) refl refl
    (λ known. subst (λ (v : StoreView). Why c.in-Err.fault c.args.self.now.turn c.args.self.now.entries c.args.self.now.silences v.entries v.seen.records v.silences) (sym c.self.view_is) (why_here c.args.self.now mid.entries c.in-Err.fault mid.seen.records mid.silences (c.in-Err.ensures.why known))))
