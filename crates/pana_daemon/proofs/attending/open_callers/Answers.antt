use Rattle.std.proofs.Common.{◌≡◌, suc, length, map, vec_capacity, arith, ap, refl, sym, subst, ◌∙◌}
use Rattle.std.proofs.lemmas.List.{length-map}
use Rattle.pana_daemon.specs.declared.post.Caller.{Caller}
use Rattle.pana_daemon.specs.Session.{at_rest}
use Rattle.pana_daemon.specs.inner.Passes.{AreOpen}
use Rattle.pana_daemon.proofs.Moving.{made_all, made_none, made_one, room_first, room_left}
use Rattle.pana_daemon.proofs.attending.open_callers.Goals as goal

pub loop-post-init : goal.loop-post-init
loop-post-init g c =
    let left = c.into_iter-post-iterator.result.rest.items in
    let passes = c.into_iter-passes.result.rest.items in
    let all = c.into_iter-post-iterator.ensures.into_iter_gives.0 in
    let given = c.into_iter-passes.ensures.rest in
    let long : length left ≡ length c.args.posts.items = ap length all in
    let many : length passes ≡ length c.args.passes.items = ap length given in (
      tt,
      tt,
      subst (AreOpen c.args.desk.now.id) (sym given) c.requires.open,
      made_none (λ (caller : Caller g.row.S.Denot g.row.T.Denot g.row.G.Denot g.row.D.Denot g.row.F.Denot). caller.post) c.args.callers.items left c.args.posts.items c.requires.empty all,
      made_none (λ (caller : Caller g.row.S.Denot g.row.T.Denot g.row.G.Denot g.row.D.Denot g.row.F.Denot). caller.session) c.args.callers.items (map at_rest passes) (map at_rest c.args.passes.items) c.requires.empty (ap (map at_rest) given),
      omega (arith, long, many, c.requires.enough),
      room_first left c.args.posts.items c.args.callers.items (vec_capacity c.args.callers) c.requires.empty all c.requires.room,
      room_first left c.args.posts.items c.args.callers.items 64 c.requires.empty all c.requires.few,
    )

pub new-requires-clause-desk : goal.new-requires-clause-desk
new-requires-clause-desk g c = (subst (AreOpen c.args.desk.now.id) c.in-Some-next.ensures.items c.loop-post.invariant.2).0

pub new-requires-clause-answered : goal.new-requires-clause-answered
new-requires-clause-answered g c = (subst (AreOpen c.args.desk.now.id) c.in-Some-next.ensures.items c.loop-post.invariant.2).1

pub push_reserved-requires : goal.push_reserved-requires
push_reserved-requires g c =
    let shorter : length c.loop-post.post-iterator.rest.items ≡ suc (length c.next.new.self.rest.items) = ap length c.in-Some.ensures.steps.0 in
    omega (arith, c.loop-post.callers.ok.0, c.loop-post.invariant.6, shorter)

pub loop-post-preserved : goal.loop-post-preserved
loop-post-preserved g c =
    let so = c.loop-post.invariant in
    let left = c.loop-post.post-iterator.rest.items in
    let rest = c.next.new.self.rest.items in
    let first = c.in-Some.ensures.steps.0 in
    let passes = c.loop-post.passes.rest.items in
    let more = c.next-in-loop-post.new.self.rest.items in
    let next = c.in-Some-next.ensures.items in
    let caller : Caller g.row.S.Denot g.row.T.Denot g.row.G.Denot g.row.D.Denot g.row.F.Denot = record { session = c.new.result; post = c.in-Some.post } in
    let old = c.loop-post.callers.items in
    let new = c.push_reserved.new.self.items in
    let added = c.push_reserved.ensures.items in
    let shorter : length left ≡ suc (length rest) = ap length first in
    let fewer : length passes ≡ suc (length more) = ap length next in (
      tt,
      tt,
      (subst (AreOpen c.args.desk.now.id) next so.2).2,
      made_one (λ (one : Caller g.row.S.Denot g.row.T.Denot g.row.G.Denot g.row.D.Denot g.row.F.Denot). one.post) caller c.in-Some.post old new left rest c.args.posts.items so.3 first added refl,
      made_one (λ (one : Caller g.row.S.Denot g.row.T.Denot g.row.G.Denot g.row.D.Denot g.row.F.Denot). one.session) caller (at_rest c.in-Some-next.pass) old new (map at_rest passes) (map at_rest more) (map at_rest c.args.passes.items) so.4 (ap (map at_rest) next) added c.new.ensures,
      omega (arith, shorter, fewer, so.5),
      room_left c.in-Some.post caller left rest old new (vec_capacity c.loop-post.callers) (vec_capacity c.push_reserved.new.self) so.6 first added c.push_reserved.ensures.capacity,
      room_left c.in-Some.post caller left rest old new 64 64 so.7 first added refl,
    )

pub unreachable-requires : goal.unreachable-requires
unreachable-requires g c =
    let shorter : length c.loop-post.post-iterator.rest.items ≡ suc (length c.next.new.self.rest.items) = ap length c.in-Some.ensures.steps.0 in
    omega (arith, shorter, c.loop-post.invariant.5, c.loop-post.passes.rest.ok.0, c.in_default.ensures.cases.0)

pub returns-clause-posts : goal.returns-clause-posts
returns-clause-posts g c =
    made_all (λ (caller : Caller g.row.S.Denot g.row.T.Denot g.row.G.Denot g.row.D.Denot g.row.F.Denot). caller.post) c.loop-post.callers.items c.loop-post.post-iterator.rest.items c.args.posts.items c.loop-post.invariant.3
    (sym c.loop-post.post-iterator.rest.ok.0 ∙ c.in-None.ensures.steps.0)

pub returns-clause-passes : goal.returns-clause-passes
returns-clause-passes g c =
    made_all (λ (caller : Caller g.row.S.Denot g.row.T.Denot g.row.G.Denot g.row.D.Denot g.row.F.Denot). caller.session) c.loop-post.callers.items (map at_rest c.loop-post.passes.rest.items) (map at_rest c.args.passes.items) c.loop-post.invariant.4
    (length-map c.loop-post.passes.rest.items at_rest ∙ c.loop-post.invariant.5 ∙ sym c.loop-post.post-iterator.rest.ok.0 ∙ c.in-None.ensures.steps.0)
