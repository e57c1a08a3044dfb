use Rattle.std.proofs.Common.{◌≡◌, ◌++◌, ◌+◌, ◌≤◌, List, length, take, drop, vec_len, vec_capacity, length-append, length-take-le, take-append-drop, sym, ap, subst}
use native.Mathlib.Omega.{arith}
use Rattle.pana_calls.specs.declared.message.Message.{Message}
use Rattle.pana_calls.proofs.Calls.{Completes}
use Rattle.pana_shared_store.specs.Store.{Makes}
use Rattle.pana_shared_store.specs.inner.Groups.{FailsFor}
use Rattle.pana_shared_store.proofs.Together.{goes_many, makes_even}
use Rattle.pana_shared_store.proofs.store.SharedStore.call_each.Goals as goal

pub loop-left-preserved : goal.loop-left-preserved
loop-left-preserved g c =
    let step = Makes g.L.SharedLog.is_known in
    let fails = FailsFor g.L.SharedLog.is_known in
    let loop = c.loop-left in
    let left = loop.left.now in
    let count = c.in_ok-count.count in
    let made = c.in_ok-count.ensures.ok in
    let after = c.call_some.new in
    let parts : take count left ++ drop count left ≡ left = take-append-drop count left in
    let far = subst (λ (l : List Message). Completes step fails c.args.self.now c.args.calls.now c.args.answers.now.items loop.self l loop.answers.items) (sym parts) loop.invariant.far in
    let behind : c.split_at.result.1.now ≡ drop count left = c.split_at.ensures.back in
    let room : vec_len after.answers + length (drop count left) ≤ vec_capacity after.answers =
    (
    let before = loop.invariant.room in
    let items : length after.answers.items ≡ length (loop.answers.items ++ made.2.given) = ap length made.2.adds in
    let sum = length-append loop.answers.items made.2.given in
    let even = makes_even step (take count left) made.2.given loop.self after.self made.2.makes in
    let taken = length-take-le count left made.1 in
    let all : length (take count left ++ drop count left) ≡ length left = ap length parts in
    let both = length-append (take count left) (drop count left) in
    let old = loop.answers.ok.0 in
    let new = after.answers.ok.0 in
    let capacity = c.call_some.ensures.capacity in
    omega (arith, before, items, sum, even, taken, all, both, old, new, capacity)) in
    record {
      far = subst (λ (l : List Message). Completes step fails c.args.self.now c.args.calls.now c.args.answers.now.items after.self l after.answers.items) (sym behind)
          (goes_many step fails c.args.self.now loop.self after.self c.args.calls.now (take count left) (drop count left) c.args.answers.now.items loop.answers.items after.answers.items made.2 far);
      room = subst (λ (l : List Message). vec_len after.answers + length l ≤ vec_capacity after.answers) (sym behind) room;
    }
