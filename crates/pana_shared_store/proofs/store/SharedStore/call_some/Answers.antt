use Rattle.std.proofs.Common.{rules, ◌≡◌, true, List, take, subst, Option, ℕ}
use native.Mathlib.Omega.{arith}
use Rattle.pana_calls.specs.declared.answer.Answer.{Answer}
use Rattle.pana_calls.specs.Session.{AddsAll, AddsSome}
use Rattle.pana_calls.proofs.Calls.{on_err}
use Rattle.pana_shared_store.specs.Store.{Makes}
use Rattle.pana_shared_store.specs.inner.Groups.{Calls, FailsFor}
use Rattle.pana_shared_store.proofs.Together.{calls_broken, some_first, waits_all, waits_some}
use Rattle.pana_shared_store.proofs.store.SharedStore.call_some.Goals as goal

pub returns-then-is_some-clause-err : goal.returns-then-is_some-clause-err
returns-then-is_some-clause-err g c =
    let broken : c.args.self.now.broken ≡ true = search rules in
    calls_broken g.L.SharedLog.is_known c.args.self.now c.args.calls.now c.args.answers.now.items c.requires.some broken

pub returns-in_err-call_first-in-None-clause-err : goal.returns-in_err-call_first-in-None-clause-err
returns-in_err-call_first-in-None-clause-err g c =
    let waited = subst (λ (o : Option ℕ). Calls g.L.SharedLog.is_known c.args.self.now c.args.calls.now c.args.answers.now.items o c.call_group.new.self c.call_group.new.answers.items) c.in-None.is c.in_ok-count.ensures.ok in
    on_err c.from_residual-in_err-call_first-in-None.result (AddsSome (Makes g.L.SharedLog.is_known) (FailsFor g.L.SharedLog.is_known) c.args.self.now c.args.calls.now c.args.answers.now.items c.call_first.new.answers.items c.call_first.new.self)
    (waits_some g.L.SharedLog.is_known c.args.self.now c.call_group.new.self c.call_first.new.self c.args.calls.now c.args.answers.now.items c.call_first.new.answers.items waited.0
    (subst (λ (l : List Answer). AddsSome (Makes g.L.SharedLog.is_known) (FailsFor g.L.SharedLog.is_known) c.call_group.new.self c.args.calls.now l c.call_first.new.answers.items c.call_first.new.self) waited.1 c.in_err-call_first-in-None.ensures.err))

pub returns-in_ok-call_first-in-None-clause-ok : goal.returns-in_ok-call_first-in-None-clause-ok
returns-in_ok-call_first-in-None-clause-ok g c =
    let waited = subst (λ (o : Option ℕ). Calls g.L.SharedLog.is_known c.args.self.now c.args.calls.now c.args.answers.now.items o c.call_group.new.self c.call_group.new.answers.items) c.in-None.is c.in_ok-count.ensures.ok in
    let some = c.requires.some in (
      omega arith,
      omega (arith, some),
      waits_all g.L.SharedLog.is_known c.args.self.now c.call_group.new.self c.call_first.new.self waited.0 (take 1 c.args.calls.now) c.args.answers.now.items c.call_first.new.answers.items (some_first c.args.calls.now some)
          (subst (λ (l : List Answer). AddsAll (Makes g.L.SharedLog.is_known) c.call_group.new.self (take 1 c.args.calls.now) l c.call_first.new.answers.items c.call_first.new.self) waited.1 c.in_ok-call_first-in-None.ensures.ok),
    )
