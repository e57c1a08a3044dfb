use Rattle.std.proofs.Common.{◌≡◌, suc, [], ◌∷◌, length, map, vec_capacity, arith, ap, refl, sym, ◌∙◌}
use Rattle.std.proofs.lemmas.List.{length-map, map-append}
use Rattle.pana_daemon.specs.Session.{at_rest}
use Rattle.pana_daemon.specs.declared.post.Caller.{Caller}
use Rattle.pana_daemon.proofs.Moving.{room_first, room_left, taken_all, taken_none, taken_one}
use Rattle.pana_daemon.proofs.attending.take_apart.Goals as goal

pub loop-caller-init : goal.loop-caller-init
loop-caller-init g c =
    let left = c.into_iter-caller-iterator.result.rest.items in
    let all = c.into_iter-caller-iterator.ensures.into_iter_gives.0 in (
      tt,
      tt,
      taken_none (λ (caller : Caller g.row.S.Denot g.row.T.Denot g.row.G.Denot g.row.D.Denot g.row.F.Denot). caller.session) (map at_rest c.args.passes.now.items) left c.args.callers.items (length-map c.args.passes.now.items at_rest ∙ c.requires.no_passes) all,
      taken_none (λ (caller : Caller g.row.S.Denot g.row.T.Denot g.row.G.Denot g.row.D.Denot g.row.F.Denot). caller.post) c.args.posts.now.items left c.args.callers.items c.requires.no_posts all,
      room_first left c.args.callers.items c.args.passes.now.items (vec_capacity c.args.passes.now) c.requires.no_passes all c.requires.room,
      room_first left c.args.callers.items c.args.posts.now.items (vec_capacity c.args.posts.now) c.requires.no_posts all c.requires.places,
    )

pub push_reserved-requires : goal.push_reserved-requires
push_reserved-requires g c =
    let shorter : length c.loop-caller.caller-iterator.rest.items ≡ suc (length c.next.new.self.rest.items) = ap length c.in-Some.ensures.steps.0 in
    omega (arith, c.loop-caller.passes.ok.0, c.loop-caller.invariant.4, shorter)

pub push_reserved-requires-in-loop-caller : goal.push_reserved-requires-in-loop-caller
push_reserved-requires-in-loop-caller g c =
    let shorter : length c.loop-caller.caller-iterator.rest.items ≡ suc (length c.next.new.self.rest.items) = ap length c.in-Some.ensures.steps.0 in
    omega (arith, c.loop-caller.posts.ok.0, c.loop-caller.invariant.5, shorter)

pub loop-caller-preserved : goal.loop-caller-preserved
loop-caller-preserved g c =
    let so = c.loop-caller.invariant in
    let left = c.loop-caller.caller-iterator.rest.items in
    let rest = c.next.new.self.rest.items in
    let first = c.in-Some.ensures.steps.0 in
    let pass = c.push_reserved in
    let post = c.push_reserved-in-loop-caller in (
      tt,
      tt,
      taken_one (λ (caller : Caller g.row.S.Denot g.row.T.Denot g.row.G.Denot g.row.D.Denot g.row.F.Denot). caller.session) c.in-Some.caller (at_rest c.into_pass.result) left rest c.args.callers.items (map at_rest c.loop-caller.passes.items) (map at_rest pass.new.self.items)
          so.2 first (ap (map at_rest) pass.ensures.items ∙ map-append at_rest c.loop-caller.passes.items (c.into_pass.result ∷ [])) (sym c.into_pass.ensures),
      taken_one (λ (caller : Caller g.row.S.Denot g.row.T.Denot g.row.G.Denot g.row.D.Denot g.row.F.Denot). caller.post) c.in-Some.caller c.in-Some.caller.post left rest c.args.callers.items c.loop-caller.posts.items post.new.self.items
          so.3 first post.ensures.items refl,
      room_left c.in-Some.caller c.into_pass.result left rest c.loop-caller.passes.items pass.new.self.items (vec_capacity c.loop-caller.passes) (vec_capacity pass.new.self) so.4 first pass.ensures.items pass.ensures.capacity,
      room_left c.in-Some.caller c.in-Some.caller.post left rest c.loop-caller.posts.items post.new.self.items (vec_capacity c.loop-caller.posts) (vec_capacity post.new.self) so.5 first post.ensures.items post.ensures.capacity,
    )

pub returns-clause-passes : goal.returns-clause-passes
returns-clause-passes g c =
    taken_all (λ (caller : Caller g.row.S.Denot g.row.T.Denot g.row.G.Denot g.row.D.Denot g.row.F.Denot). caller.session) c.loop-caller.caller-iterator.rest.items c.args.callers.items (map at_rest c.loop-caller.passes.items) c.loop-caller.invariant.2
    (sym c.loop-caller.caller-iterator.rest.ok.0 ∙ c.in-None.ensures.steps.0)

pub returns-clause-posts : goal.returns-clause-posts
returns-clause-posts g c =
    taken_all (λ (caller : Caller g.row.S.Denot g.row.T.Denot g.row.G.Denot g.row.D.Denot g.row.F.Denot). caller.post) c.loop-caller.caller-iterator.rest.items c.args.callers.items c.loop-caller.posts.items c.loop-caller.invariant.3
    (sym c.loop-caller.caller-iterator.rest.ok.0 ∙ c.in-None.ensures.steps.0)
