use Rattle.std.proofs.Common.{rules, ◌≡◌, ℕ, ◌+◌, inl, sym, subst}
use Rattle.pana_shared_store.specs.inner.{IsStore}
use Rattle.pana_shared_store.proofs.Readied.{store_later}
use Rattle.pana_shared_store.proofs.Tried.{made_by, stays_none, tried_by}
use native.Mathlib.Omega.{arith}
use Rattle.pana_shared_store.proofs.store.make_next.Goals as goal

pub returns-in_default-clause-err : goal.returns-in_default-clause-err
returns-in_default-clause-err g c = inl (stays_none g.L.SharedLog.is_known c.args.hall.now (g.L.SharedLog.seen c.args.log.now) (λ known. (c.requires.store known).first))

pub make-requires-clause-store : goal.make-requires-clause-store
make-requires-clause-store g c known =
    let next : c.in-Some.next ≡ c.args.turn.now + 1 = search rules in
    subst (λ (n : ℕ). IsStore c.args.hall.now n (g.L.SharedLog.seen c.args.log.now)) (sym next) (store_later c.args.turn.now c.args.hall.now (g.L.SharedLog.seen c.args.log.now) (c.requires.store known))

pub returns-clause-ok : goal.returns-clause-ok
returns-clause-ok g c =
    let next : c.in-Some.next ≡ c.args.turn.now + 1 = search rules in
    made_by g.L.SharedLog.is_known c.args.turn.now c.in-Some.next (omega (arith, next)) c.args.hall.now c.make.new.hall (g.L.SharedLog.seen c.args.log.now) (g.L.SharedLog.seen c.make.new.log) c.args.by.now c.args.call.now c.make.result c.make.ensures.ok

pub returns-clause-err : goal.returns-clause-err
returns-clause-err g c =
    let next : c.in-Some.next ≡ c.args.turn.now + 1 = search rules in
    tried_by g.L.SharedLog.is_known c.args.turn.now c.in-Some.next (omega (arith, next)) c.args.hall.now c.make.new.hall (g.L.SharedLog.seen c.args.log.now) (g.L.SharedLog.seen c.make.new.log) c.args.by.now c.args.call.now c.make.result c.make.ensures.err
