use Rattle.std.proofs.Common.{◌≡◌, ◌∷◌, [], ◌++◌, List, OnErr, subst, sym, ap, ◌∙◌, arith, length, ◌+◌, ◌≤◌}
use Rattle.pana_calls.specs.declared.answer.Answer.{Answer}
use Rattle.pana_calls.specs.declared.message.Message.{Message}
use Rattle.pana_calls.specs.Session.{AddsAll, AddsSome}
use Rattle.pana_calls.proofs.Calls.{Completes, begins, goes_on, none_left, nothing_left, on_err, stops}
use Rattle.pana_calls.proofs.session.Session.call_all.Goals as goal

pub loop-by-init : goal.loop-by-init
loop-by-init g c =
    let same = c.into_iter-by-iterator.ensures.into_iter_gives.0 in
    let step = g.Self.Session.step in
    let fails = g.Self.Session.fails in
    let old = c.args.self.now in
    let given = c.args.answers.now.items in
    record {
      far = subst (λ (left : List Message). Completes step fails old c.args.calls.items given old left given) (sym same) (begins step fails old c.args.calls.items given);
      room = grind (arith, same, c.requires.room);
    }

pub returns-in_err-answer-clause-fails : goal.returns-in_err-answer-clause-fails
returns-in_err-answer-clause-fails g c =
    let step = g.Self.Session.step in
    let fails = g.Self.Session.fails in
    let loop = c.loop-by in
    let left = c.next.new.self.rest.items in
    let next : loop.by-iterator.rest.items ≡ c.in-Some.field-0 ∷ left = c.in-Some.ensures.steps.0 in
    let failed = c.in_err-answer.ensures.fails in
    let new = c.call.new.self in
    on_err c.from_residual.result (AddsSome step fails c.args.self.now c.args.calls.items c.args.answers.now.items loop.answers.items new) (loop.invariant.far.some loop.answers.items new
    (subst (λ (ms : List Message). AddsSome step fails loop.self ms loop.answers.items loop.answers.items new) (sym next) (stops step fails loop.self new c.in-Some.field-0 left loop.answers.items failed)))

pub push_reserved-requires : goal.push_reserved-requires
push_reserved-requires g c =
    let next : c.loop-by.by-iterator.rest.items ≡ c.in-Some.field-0 ∷ c.next.new.self.rest.items = c.in-Some.ensures.steps.0 in
    grind (arith, next, c.loop-by.invariant.room)

pub loop-by-preserved : goal.loop-by-preserved
loop-by-preserved g c =
    let step = g.Self.Session.step in
    let fails = g.Self.Session.fails in
    let loop = c.loop-by in
    let left = c.next.new.self.rest.items in
    let message = c.in-Some.field-0 in
    let next : loop.by-iterator.rest.items ≡ message ∷ left = c.in-Some.ensures.steps.0 in
    let answer = c.in_ok-answer.answer in
    let mid = c.call.new.self in
    let old = c.args.self.now in
    let all = c.args.calls.items in
    let before = c.args.answers.now.items in
    let far = subst (λ (ms : List Message). Completes step fails old all before loop.self ms loop.answers.items) next loop.invariant.far in
    record {
      far = subst (λ (given : List Answer). Completes step fails old all before mid left given) (sym c.push_reserved.ensures.items) (goes_on step fails loop.self mid message answer loop.answers.items c.in_ok-answer.ensures.step old all left before far);
      room = grind (arith, next, loop.invariant.room, c.push_reserved.ensures.len, c.push_reserved.ensures.capacity);
    }

pub returns-clause-step : goal.returns-clause-step
returns-clause-step g c =
    let step = g.Self.Session.step in
    let fails = g.Self.Session.fails in
    let loop = c.loop-by in
    let none = nothing_left loop.by-iterator.rest.items (sym loop.by-iterator.rest.ok.0 ∙ c.in-None.ensures.steps.0) in
    loop.invariant.far.all loop.answers.items loop.self (subst (λ (ms : List Message). AddsAll step loop.self ms loop.answers.items loop.answers.items loop.self) (sym none) (none_left step fails loop.self loop.answers.items))
