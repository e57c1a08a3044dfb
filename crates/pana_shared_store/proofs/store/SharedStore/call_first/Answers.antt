use Rattle.std.proofs.Common.{◌≡◌, false, [], ◌∷◌, refl, sym, ap, subst, ◌∙◌, Some}
use Rattle.std.specs.Prelude.{is_some}
use native.Mathlib.Omega.{arith}
use Rattle.pana_calls.specs.Session.{AddsSome}
use Rattle.pana_shared_store.specs.Store.{Makes, StoreView, Why, foreign_of}
use Rattle.pana_shared_store.specs.inner.Groups.{FailsFor, moment_of, shown}
use Rattle.pana_shared_store.proofs.Together.{calls_fail, first_call}
use Rattle.pana_shared_store.proofs.store.SharedStore.call_first.Goals as goal

pub returns-in-Err-clause-err : goal.returns-in-Err-clause-err
returns-in-Err-clause-err g c =
    let first = first_call c.args.calls.now c.index-calls-0.result c.requires.some c.index-calls-0.is in
    let old : StoreView = record { entries = shown c.self.inside.hall c.self.inside.kept; seen = g.L.SharedLog.seen c.self.inside.log; silences = g.L.SharedLog.silences c.self.inside.log; turn = c.self.inside.turn; broken = is_some (foreign_of c.self.inside.fault); fault = c.self.inside.fault; is_stale = c.self.inside.is_stale } in
    let after = c.self-2.inside in
    let new : StoreView = record { entries = shown after.hall after.kept; seen = g.L.SharedLog.seen after.log; silences = g.L.SharedLog.silences after.log; turn = after.turn; broken = is_some (foreign_of (Some c.in-Err.fault)); fault = Some c.in-Err.fault; is_stale = after.is_stale } in
    subst (λ (v : StoreView). v.broken ≡ false → AddsSome (Makes g.L.SharedLog.is_known) (FailsFor g.L.SharedLog.is_known) v c.args.calls.now c.args.answers.now.items c.args.answers.now.items new) c.self.view_is
    (λ whole. calls_fail g.L.SharedLog.is_known old c.make_of.new.self new c.args.calls.now c.args.answers.now.items c.in-Err.fault whole (record { tried = c.index-calls-0.result ∷ []; left = first.0; split = first.1; some = omega arith; on = c.in-Err.ensures.err }) (ap moment_of c.self-2.view_is) c.make_of.ensures.turn
    (ap (λ (v : StoreView). v.is_stale) c.self-2.view_is ∙ c.make_of.ensures.stale) refl refl
    (λ known. subst (λ (v : StoreView). Why c.in-Err.fault old.turn old.entries old.silences v.entries v.seen.records v.silences) (sym c.self-2.view_is) (c.in-Err.ensures.why known)))
    c.requires.whole
