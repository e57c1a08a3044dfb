use Rattle.std.proofs.Common.{◌≡◌, ◌+◌, List, [], ◌∷◌, ◌++◌, take, length-take-le, refl, sym, ap, subst, ◌∙◌}
use native.Mathlib.Omega.{arith}
use Rattle.std.proofs.lemmas.List.{take_more}
use Rattle.pana_calls.specs.declared.message.Message.{Message}
use Rattle.pana_shared_store.specs.inner.Groups.{Gathers}
use Rattle.pana_shared_store.proofs.Gathered.{gathers_more, gathers_none}
use Rattle.pana_shared_store.proofs.gathering.gather.Goals as goal

pub loop-count-init : goal.loop-count-init
loop-count-init c = record {
  so_far = gathers_none c.args.writer c.args.turn c.args.hall.now c.args.answers.now.items c.args.group.now.items c.requires.none;
  within = omega arith;
  room = let r = c.requires.room in omega (arith, r);
  capacity = refl;
}

pub loop-count-preserved : goal.loop-count-preserved
loop-count-preserved c =
    let calls = c.args.calls.now in
    let count = c.loop-count.count in
    let message = c.index-calls-count.result in
    let next : take count calls ++ message ∷ [] ≡ take (count + 1) calls = ap (λ (m : Message). take count calls ++ m ∷ []) c.index-calls-count.is ∙ sym (take_more calls count message c.loop-count-test.true) in
    let one = c.in-Some.ensures in
    let many = length-take-le count calls c.loop-count.invariant.within in
    record {
      so_far = subst (λ (l : List Message). Gathers c.args.writer c.args.turn c.args.hall.now c.args.answers.now.items l c.gather_one.new.hall c.push_reserved.new.self.items c.gather_one.new.group.items) next
          (gathers_more c.args.writer c.args.turn (c.args.turn + count + 1) c.args.hall.now c.loop-count.hall c.gather_one.new.hall c.args.answers.now.items c.loop-count.answers.items c.push_reserved.new.self.items (take count calls) c.loop-count.group.items c.gather_one.new.group.items message c.in-Some.reply
          c.loop-count.invariant.so_far (omega (arith, many)) one.0 one.1 one.2 one.3 c.push_reserved.ensures.items);
      within = let t = c.loop-count-test.true in omega (arith, t);
      room = let r = c.loop-count.invariant.room in let t = c.loop-count-test.true in let l = c.push_reserved.ensures.len in let k = c.push_reserved.ensures.capacity in omega (arith, r, t, l, k);
      capacity = c.push_reserved.ensures.capacity ∙ c.loop-count.invariant.capacity;
    }
