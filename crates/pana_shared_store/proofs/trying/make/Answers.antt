use Rattle.std.proofs.Common.{rules, ◌≡◌, ◌⊎◌, false, true, inl, inr, subst, ⊎_elim}
use native.Mathlib.Omega.{arith}
use Rattle.std.proofs.lemmas.Result.{err_from_is_err_and}
use Rattle.pana_shared_store.proofs.Strange.{why_on}
use Rattle.pana_calls.specs.declared.call.Call.{Call}
use Rattle.pana_shared_store.specs.declared.trying.Attempt.{Attempt}
use Rattle.pana_shared_store.specs.declared.trying.Attempt.TheVariants.{Again, Answered}
use Rattle.pana_shared_store.specs.Store.{StaysOn}
use Rattle.pana_shared_store.specs.inner.{Attempts, TriesOne}
use Rattle.pana_shared_store.proofs.Tried.{makes_on, read_again, stays_none, stays_on, tries_on}
use Rattle.pana_shared_store.proofs.trying.make.Goals as goal

pub loop-init : goal.loop-init
loop-init g c = record {
  stays = stays_none g.L.SharedLog.is_known c.args.hall.now (g.L.SharedLog.seen c.args.log.now) (λ known. (c.requires.store known).first);
  store = c.requires.store;
  ready = c.requires.ready;
  read = λ is known. absurd (let f : false ≡ true = is in cc);
  heard = λ known. omega arith;
  tries = λ known. omega arith;
}

pub returns-in_default-clause-err : goal.returns-in_default-clause-err
returns-in_default-clause-err g c = inl c.loop.invariant.stays

pub returns-in_err-answer-clause-err : goal.returns-in_err-answer-clause-err
returns-in_err-answer-clause-err g c =
    let fact : StaysOn g.L.SharedLog.is_known c.args.hall.now (g.L.SharedLog.seen c.args.log.now) c.attempt_once.new.hall (g.L.SharedLog.seen c.attempt_once.new.log) ⊎ TriesOne g.L.SharedLog.is_known c.args.turn c.args.hall.now (g.L.SharedLog.seen c.args.log.now) c.args.by.now c.args.call.now c.attempt_once.new.hall (g.L.SharedLog.seen c.attempt_once.new.log) =
    ⊎_elim (λ s. inl (stays_on g.L.SharedLog.is_known c.args.turn c.args.hall.now c.loop.hall c.attempt_once.new.hall (g.L.SharedLog.seen c.args.log.now) (g.L.SharedLog.seen c.loop.log) (g.L.SharedLog.seen c.attempt_once.new.log) c.args.by.now c.args.call.now (λ known. (c.requires.store known).some) c.loop.invariant.stays s)) (λ s. inr (tries_on g.L.SharedLog.is_known c.args.turn c.args.hall.now c.loop.hall c.attempt_once.new.hall (g.L.SharedLog.seen c.args.log.now) (g.L.SharedLog.seen c.loop.log) (g.L.SharedLog.seen c.attempt_once.new.log) c.args.by.now c.args.call.now (λ known. (c.requires.store known).some) c.loop.invariant.stays (subst (λ (k : Call). TriesOne g.L.SharedLog.is_known c.args.turn c.loop.hall (g.L.SharedLog.seen c.loop.log) c.args.by.now k c.attempt_once.new.hall (g.L.SharedLog.seen c.attempt_once.new.log)) c.in-Ok.ensures s))) c.in_err-answer.ensures.err in
    search (rules, fact)

pub returns-in-Answered-clause-ok : goal.returns-in-Answered-clause-ok
returns-in-Answered-clause-ok g c = makes_on g.L.SharedLog.is_known c.args.turn c.args.hall.now c.loop.hall c.attempt_once.new.hall (g.L.SharedLog.seen c.args.log.now) (g.L.SharedLog.seen c.loop.log) (g.L.SharedLog.seen c.attempt_once.new.log) c.args.by.now c.args.call.now (λ known. (c.requires.store known).some) c.loop.invariant.stays c.in-Answered.answer c.loop.is_read (subst (λ (k : Call). Attempts g.L.SharedLog.is_known c.args.turn c.loop.is_read c.loop.hall (g.L.SharedLog.seen c.loop.log) c.args.by.now k (Answered c.in-Answered.answer) c.attempt_once.new.hall (g.L.SharedLog.seen c.attempt_once.new.log)) c.in-Ok.ensures (subst (λ (t : Attempt). Attempts g.L.SharedLog.is_known c.args.turn c.loop.is_read c.loop.hall (g.L.SharedLog.seen c.loop.log) c.args.by.now c.in-Ok.copy t c.attempt_once.new.hall (g.L.SharedLog.seen c.attempt_once.new.log)) c.in-Answered.is c.in_ok-answer.ensures.ok)) c.loop.invariant.read

pub loop-preserved : goal.loop-preserved
loop-preserved g c =
    let again = (subst (λ (k : Call). Attempts g.L.SharedLog.is_known c.args.turn c.loop.is_read c.loop.hall (g.L.SharedLog.seen c.loop.log) c.args.by.now k (Again c.in-Again.is_now) c.attempt_once.new.hall (g.L.SharedLog.seen c.attempt_once.new.log)) c.in-Ok.ensures (subst (λ (t : Attempt). Attempts g.L.SharedLog.is_known c.args.turn c.loop.is_read c.loop.hall (g.L.SharedLog.seen c.loop.log) c.args.by.now c.in-Ok.copy t c.attempt_once.new.hall (g.L.SharedLog.seen c.attempt_once.new.log)) c.in-Again.is c.in_ok-answer.ensures.ok)) in
    record {
      stays = stays_on g.L.SharedLog.is_known c.args.turn c.args.hall.now c.loop.hall c.attempt_once.new.hall (g.L.SharedLog.seen c.args.log.now) (g.L.SharedLog.seen c.loop.log) (g.L.SharedLog.seen c.attempt_once.new.log) c.args.by.now c.args.call.now (λ known. (c.requires.store known).some) c.loop.invariant.stays again.0;
      store = c.attempt_once.ensures.store;
      ready = again.1;
      read = λ is known. read_again g.L.SharedLog.is_known c.args.turn c.args.hall.now c.loop.hall c.attempt_once.new.hall (g.L.SharedLog.seen c.args.log.now) (g.L.SharedLog.seen c.loop.log) (g.L.SharedLog.seen c.attempt_once.new.log) c.args.by.now c.args.call.now (λ known. (c.requires.store known).some) c.loop.invariant.stays c.loop.is_read again.0 known (again.3 is known) (λ was. c.loop.invariant.read was known);
      heard = λ known. (let h = c.loop.invariant.heard known in let r = c.attempt_once.ensures.heard known in omega (arith, h, r));
      tries = λ known. (let t = c.loop.invariant.tries known in let m = again.2 known in omega (arith, t, m));
    }

pub returns-clause-err : goal.returns-clause-err
returns-clause-err g c = inl c.loop.invariant.stays

pub returns-in_err-answer-clause-why : goal.returns-in_err-answer-clause-why
returns-in_err-answer-clause-why g c =
    let p = err_from_is_err_and c.from_residual.result c.from_residual.ensures.1 in
    rw (p.1, p.2) λ known.
    why_on _ 0 c.args.hall.now c.loop.hall c.attempt_once.new.hall _ _ _ _ c.loop.invariant.stays.goes_on (c.loop.invariant.heard known) (c.in_err-answer.ensures.why known)

pub returns-clause-why : goal.returns-clause-why
returns-clause-why g c = λ known. inr (inl (let t = c.loop.invariant.tries known in let e = c.loop-test.false in omega (arith, t, e)))
