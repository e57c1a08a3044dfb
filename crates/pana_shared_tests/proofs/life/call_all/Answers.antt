use Rattle.std.proofs.Common.{rules, arith, ◌≡◌, [], refl, sym, ◌∙◌}
use Rattle.std.proofs.lemmas.Grind.{common_steps}
use Rattle.pana_shared_tests.proofs.Lived.{lives_more, rest_next, waits_none}
use Rattle.pana_shared_tests.proofs.life.call_all.Goals as goal

pub loop-by-init : goal.loop-by-init
loop-by-init g c = record { lives = ([], waits_none g.L.SharedLog.is_known c.args.store.now, refl); rest = sym c.into_iter-by-iterator.ensures.into_iter_gives.0 }

pub loop-by-preserved-then-is_ok : goal.loop-by-preserved-then-is_ok
loop-by-preserved-then-is_ok g c = record {
  lives = lives_more g.L.SharedLog.is_known _ _ _ _ _ _ c.loop-by.invariant.lives c.call_one.ensures;
  rest = rest_next c.args.calls.items c.loop-by.yielded c.loop-by.by-iterator.rest.items c.next.new.self.rest.items (c.in-Some.by, c.in-Some.call) c.loop-by.invariant.rest c.in-Some.ensures.steps.0;
}

pub loop-by-preserved : goal.loop-by-preserved
loop-by-preserved g c = record {
  lives = lives_more g.L.SharedLog.is_known _ _ _ _ _ _ c.loop-by.invariant.lives c.call_one.ensures;
  rest = rest_next c.args.calls.items c.loop-by.yielded c.loop-by.by-iterator.rest.items c.next.new.self.rest.items (c.in-Some.by, c.in-Some.call) c.loop-by.invariant.rest c.in-Some.ensures.steps.0;
}

pub returns : goal.returns
returns g c =
    let all : c.loop-by.yielded ≡ c.args.calls.items = first_of (grind (arith, common_steps, c.loop-by.invariant.rest, c.in-None.ensures.steps), search (rules, c.in-None.ensures.steps)) in
    (c.loop-by.invariant.lives.0, c.loop-by.invariant.lives.1, c.loop-by.invariant.lives.2 ∙ all)
