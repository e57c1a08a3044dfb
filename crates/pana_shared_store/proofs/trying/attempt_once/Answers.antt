use Rattle.std.proofs.Common.{rules, ◌⊎◌, [], ◌∷◌, length, inl, inr, sym, ap, subst, append-nil}
use native.Mathlib.Omega.{arith}
use Rattle.pana_shared_store.specs.declared.making.Tried.{Tried}
use Rattle.pana_shared_store.specs.Store.{StaysOn, entries_in}
use Rattle.pana_shared_store.specs.inner.{LooksOn, TriesOne, TriesTo}
use Rattle.pana_shared_store.proofs.Followed.{looks_none}
use Rattle.pana_shared_store.proofs.Readied.{store_looked}
use Rattle.std.proofs.lemmas.Result.{err_from_is_err_and}
use Rattle.pana_shared_store.proofs.Strange.{stopped_behind}
use Rattle.pana_shared_store.proofs.Tried.{behind_looks, behind_more, behind_ready, behind_stays, not_made, not_more, not_read, not_ready, not_stays, tried_made, tried_none}
use Rattle.pana_shared_store.proofs.trying.attempt_once.Goals as goal

pub returns-in_err-reply-clause-err : goal.returns-in_err-reply-clause-err
returns-in_err-reply-clause-err g c =
    let fact : StaysOn g.L.SharedLog.is_known c.args.hall.now (g.L.SharedLog.seen c.args.log.now) c.try_to_make.new.hall (g.L.SharedLog.seen c.try_to_make.new.log) ⊎ TriesOne g.L.SharedLog.is_known c.args.turn c.args.hall.now (g.L.SharedLog.seen c.args.log.now) c.args.by.now c.args.call c.try_to_make.new.hall (g.L.SharedLog.seen c.try_to_make.new.log) =
    inr (tried_none g.L.SharedLog.is_known c.args.turn c.args.hall.now c.try_to_make.new.hall (g.L.SharedLog.seen c.args.log.now) (g.L.SharedLog.seen c.try_to_make.new.log) c.args.by.now c.args.call c.try_to_make.ensures.store c.in_err-reply.ensures.err) in
    search (rules, fact)

pub returns-in-Made-clause-ok : goal.returns-in-Made-clause-ok
returns-in-Made-clause-ok g c = tried_made g.L.SharedLog.is_known c.args.turn c.args.hall.now c.try_to_make.new.hall (g.L.SharedLog.seen c.args.log.now) (g.L.SharedLog.seen c.try_to_make.new.log) c.args.by.now c.args.call c.try_to_make.ensures.store c.in-Made.reply c.args.is_read
    (subst (λ (t : Tried). TriesTo g.L.SharedLog.is_known c.args.turn c.args.hall.now (g.L.SharedLog.seen c.args.log.now) c.args.by.now c.args.call t c.try_to_make.new.hall (g.L.SharedLog.seen c.try_to_make.new.log)) c.in-Made.is c.in_ok-reply.ensures.ok)

pub returns-in_err-follow_page-in-Behind-clause-store : goal.returns-in_err-follow_page-in-Behind-clause-store
returns-in_err-follow_page-in-Behind-clause-store g c known =
    let looks : LooksOn g.L.SharedLog.is_known c.try_to_make.new.hall (g.L.SharedLog.seen c.try_to_make.new.log) c.follow_page.new.hall (g.L.SharedLog.seen c.try_to_make.new.log) = (behind_looks g.L.SharedLog.is_known c.args.turn c.args.hall.now c.try_to_make.new.hall c.follow_page.new.hall (g.L.SharedLog.seen c.args.log.now) (g.L.SharedLog.seen c.try_to_make.new.log) c.args.by.now c.args.call c.in-Behind.page c.in_err-follow_page-in-Behind.ensures.err.0 (c.in_err-follow_page-in-Behind.ensures.err.1 ∷ c.in_err-follow_page-in-Behind.ensures.err.2) c.try_to_make.ensures.store (subst (λ (t : Tried). TriesTo g.L.SharedLog.is_known c.args.turn c.args.hall.now (g.L.SharedLog.seen c.args.log.now) c.args.by.now c.args.call t c.try_to_make.new.hall (g.L.SharedLog.seen c.try_to_make.new.log)) c.in-Behind.is c.in_ok-reply.ensures.ok) c.in_err-follow_page-in-Behind.ensures.err.3 c.in_err-follow_page-in-Behind.ensures.err.4) in
    store_looked c.args.turn c.try_to_make.new.hall c.follow_page.new.hall (g.L.SharedLog.seen c.try_to_make.new.log) (g.L.SharedLog.seen c.try_to_make.new.log) (c.try_to_make.ensures.store known) (looks.reads known) looks.goes_on (looks.first known)

pub returns-in_err-follow_page-in-Behind-clause-err : goal.returns-in_err-follow_page-in-Behind-clause-err
returns-in_err-follow_page-in-Behind-clause-err g c =
    let looks : LooksOn g.L.SharedLog.is_known c.try_to_make.new.hall (g.L.SharedLog.seen c.try_to_make.new.log) c.follow_page.new.hall (g.L.SharedLog.seen c.try_to_make.new.log) = (behind_looks g.L.SharedLog.is_known c.args.turn c.args.hall.now c.try_to_make.new.hall c.follow_page.new.hall (g.L.SharedLog.seen c.args.log.now) (g.L.SharedLog.seen c.try_to_make.new.log) c.args.by.now c.args.call c.in-Behind.page c.in_err-follow_page-in-Behind.ensures.err.0 (c.in_err-follow_page-in-Behind.ensures.err.1 ∷ c.in_err-follow_page-in-Behind.ensures.err.2) c.try_to_make.ensures.store (subst (λ (t : Tried). TriesTo g.L.SharedLog.is_known c.args.turn c.args.hall.now (g.L.SharedLog.seen c.args.log.now) c.args.by.now c.args.call t c.try_to_make.new.hall (g.L.SharedLog.seen c.try_to_make.new.log)) c.in-Behind.is c.in_ok-reply.ensures.ok) c.in_err-follow_page-in-Behind.ensures.err.3 c.in_err-follow_page-in-Behind.ensures.err.4) in
    let fact : StaysOn g.L.SharedLog.is_known c.args.hall.now (g.L.SharedLog.seen c.args.log.now) c.follow_page.new.hall (g.L.SharedLog.seen c.try_to_make.new.log) ⊎ TriesOne g.L.SharedLog.is_known c.args.turn c.args.hall.now (g.L.SharedLog.seen c.args.log.now) c.args.by.now c.args.call c.follow_page.new.hall (g.L.SharedLog.seen c.try_to_make.new.log) =
    inl (behind_stays g.L.SharedLog.is_known c.args.turn c.args.hall.now c.try_to_make.new.hall c.follow_page.new.hall (g.L.SharedLog.seen c.args.log.now) (g.L.SharedLog.seen c.try_to_make.new.log) (g.L.SharedLog.seen c.try_to_make.new.log) c.args.by.now c.args.call c.requires.store c.requires.ready looks c.in-Behind.page (subst (λ (t : Tried). TriesTo g.L.SharedLog.is_known c.args.turn c.args.hall.now (g.L.SharedLog.seen c.args.log.now) c.args.by.now c.args.call t c.try_to_make.new.hall (g.L.SharedLog.seen c.try_to_make.new.log)) c.in-Behind.is c.in_ok-reply.ensures.ok)) in
    search (rules, fact)

pub returns-in_ok-follow_page-in-Behind-clause-store : goal.returns-in_ok-follow_page-in-Behind-clause-store
returns-in_ok-follow_page-in-Behind-clause-store g c known =
    let looks : LooksOn g.L.SharedLog.is_known c.try_to_make.new.hall (g.L.SharedLog.seen c.try_to_make.new.log) c.follow_page.new.hall (g.L.SharedLog.seen c.try_to_make.new.log) = (behind_looks g.L.SharedLog.is_known c.args.turn c.args.hall.now c.try_to_make.new.hall c.follow_page.new.hall (g.L.SharedLog.seen c.args.log.now) (g.L.SharedLog.seen c.try_to_make.new.log) c.args.by.now c.args.call c.in-Behind.page (entries_in c.in-Behind.page.items) [] c.try_to_make.ensures.store (subst (λ (t : Tried). TriesTo g.L.SharedLog.is_known c.args.turn c.args.hall.now (g.L.SharedLog.seen c.args.log.now) c.args.by.now c.args.call t c.try_to_make.new.hall (g.L.SharedLog.seen c.try_to_make.new.log)) c.in-Behind.is c.in_ok-reply.ensures.ok) c.in_ok-follow_page-in-Behind.ensures.ok (sym (append-nil _))) in
    store_looked c.args.turn c.try_to_make.new.hall c.follow_page.new.hall (g.L.SharedLog.seen c.try_to_make.new.log) (g.L.SharedLog.seen c.try_to_make.new.log) (c.try_to_make.ensures.store known) (looks.reads known) looks.goes_on (looks.first known)

pub returns-in_ok-follow_page-in-Behind-clause-ok : goal.returns-in_ok-follow_page-in-Behind-clause-ok
returns-in_ok-follow_page-in-Behind-clause-ok g c =
    let looks : LooksOn g.L.SharedLog.is_known c.try_to_make.new.hall (g.L.SharedLog.seen c.try_to_make.new.log) c.follow_page.new.hall (g.L.SharedLog.seen c.try_to_make.new.log) = (behind_looks g.L.SharedLog.is_known c.args.turn c.args.hall.now c.try_to_make.new.hall c.follow_page.new.hall (g.L.SharedLog.seen c.args.log.now) (g.L.SharedLog.seen c.try_to_make.new.log) c.args.by.now c.args.call c.in-Behind.page (entries_in c.in-Behind.page.items) [] c.try_to_make.ensures.store (subst (λ (t : Tried). TriesTo g.L.SharedLog.is_known c.args.turn c.args.hall.now (g.L.SharedLog.seen c.args.log.now) c.args.by.now c.args.call t c.try_to_make.new.hall (g.L.SharedLog.seen c.try_to_make.new.log)) c.in-Behind.is c.in_ok-reply.ensures.ok) c.in_ok-follow_page-in-Behind.ensures.ok (sym (append-nil _))) in
    (behind_stays g.L.SharedLog.is_known c.args.turn c.args.hall.now c.try_to_make.new.hall c.follow_page.new.hall (g.L.SharedLog.seen c.args.log.now) (g.L.SharedLog.seen c.try_to_make.new.log) (g.L.SharedLog.seen c.try_to_make.new.log) c.args.by.now c.args.call c.requires.store c.requires.ready looks c.in-Behind.page (subst (λ (t : Tried). TriesTo g.L.SharedLog.is_known c.args.turn c.args.hall.now (g.L.SharedLog.seen c.args.log.now) c.args.by.now c.args.call t c.try_to_make.new.hall (g.L.SharedLog.seen c.try_to_make.new.log)) c.in-Behind.is c.in_ok-reply.ensures.ok), behind_ready g.L.SharedLog.is_known c.args.turn c.args.hall.now c.try_to_make.new.hall c.follow_page.new.hall (g.L.SharedLog.seen c.args.log.now) (g.L.SharedLog.seen c.try_to_make.new.log) (g.L.SharedLog.seen c.try_to_make.new.log) c.args.by.now c.args.call c.requires.store c.requires.ready looks c.in-Behind.page (subst (λ (t : Tried). TriesTo g.L.SharedLog.is_known c.args.turn c.args.hall.now (g.L.SharedLog.seen c.args.log.now) c.args.by.now c.args.call t c.try_to_make.new.hall (g.L.SharedLog.seen c.try_to_make.new.log)) c.in-Behind.is c.in_ok-reply.ensures.ok) c.in_ok-follow_page-in-Behind.ensures.ok, λ known. behind_more g.L.SharedLog.is_known c.args.turn c.args.hall.now c.try_to_make.new.hall c.follow_page.new.hall (g.L.SharedLog.seen c.args.log.now) (g.L.SharedLog.seen c.try_to_make.new.log) c.args.by.now c.args.call c.in-Behind.page (subst (λ (t : Tried). TriesTo g.L.SharedLog.is_known c.args.turn c.args.hall.now (g.L.SharedLog.seen c.args.log.now) c.args.by.now c.args.call t c.try_to_make.new.hall (g.L.SharedLog.seen c.try_to_make.new.log)) c.in-Behind.is c.in_ok-reply.ensures.ok) c.in_ok-follow_page-in-Behind.ensures.ok known, λ is known. inl is)

pub returns-then-is_read-clause-ok : goal.returns-then-is_read-clause-ok
returns-then-is_read-clause-ok g c =
    not_made g.L.SharedLog.is_known c.args.turn c.args.hall.now c.try_to_make.new.hall c.try_to_make.new.hall (g.L.SharedLog.seen c.args.log.now) (g.L.SharedLog.seen c.try_to_make.new.log) (g.L.SharedLog.seen c.try_to_make.new.log) c.args.by.now c.args.call c.requires.store c.requires.ready (looks_none g.L.SharedLog.is_known c.try_to_make.new.hall (g.L.SharedLog.seen c.try_to_make.new.log) (λ known. (c.try_to_make.ensures.store known).first)) c.in-Not.answer c.args.is_read
    (subst (λ (t : Tried). TriesTo g.L.SharedLog.is_known c.args.turn c.args.hall.now (g.L.SharedLog.seen c.args.log.now) c.args.by.now c.args.call t c.try_to_make.new.hall (g.L.SharedLog.seen c.try_to_make.new.log)) c.in-Not.is c.in_ok-reply.ensures.ok) (λ known. inl c.if-is_read.true) (ap length ((subst (λ (t : Tried). TriesTo g.L.SharedLog.is_known c.args.turn c.args.hall.now (g.L.SharedLog.seen c.args.log.now) c.args.by.now c.args.call t c.try_to_make.new.hall (g.L.SharedLog.seen c.try_to_make.new.log)) c.in-Not.is c.in_ok-reply.ensures.ok).0))

pub returns-in-Err-clause-store : goal.returns-in-Err-clause-store
returns-in-Err-clause-store g c known = store_looked c.args.turn c.try_to_make.new.hall c.read_on.new.hall (g.L.SharedLog.seen c.try_to_make.new.log) (g.L.SharedLog.seen c.read_on.new.log) (c.try_to_make.ensures.store known) (c.read_on.ensures.looks.reads known) c.read_on.ensures.looks.goes_on (c.read_on.ensures.looks.first known)

pub returns-in-Err-clause-err : goal.returns-in-Err-clause-err
returns-in-Err-clause-err g c =
    let fact : StaysOn g.L.SharedLog.is_known c.args.hall.now (g.L.SharedLog.seen c.args.log.now) c.read_on.new.hall (g.L.SharedLog.seen c.read_on.new.log) ⊎ TriesOne g.L.SharedLog.is_known c.args.turn c.args.hall.now (g.L.SharedLog.seen c.args.log.now) c.args.by.now c.args.call c.read_on.new.hall (g.L.SharedLog.seen c.read_on.new.log) =
    inl (not_stays g.L.SharedLog.is_known c.args.turn c.args.hall.now c.try_to_make.new.hall c.read_on.new.hall (g.L.SharedLog.seen c.args.log.now) (g.L.SharedLog.seen c.try_to_make.new.log) (g.L.SharedLog.seen c.read_on.new.log) c.args.by.now c.args.call c.requires.store c.requires.ready c.read_on.ensures.looks c.in-Not.answer
    (subst (λ (t : Tried). TriesTo g.L.SharedLog.is_known c.args.turn c.args.hall.now (g.L.SharedLog.seen c.args.log.now) c.args.by.now c.args.call t c.try_to_make.new.hall (g.L.SharedLog.seen c.try_to_make.new.log)) c.in-Not.is c.in_ok-reply.ensures.ok)) in
    fact

pub returns-then-length-at-clause-store : goal.returns-then-length-at-clause-store
returns-then-length-at-clause-store g c known = store_looked c.args.turn c.try_to_make.new.hall c.read_on.new.hall (g.L.SharedLog.seen c.try_to_make.new.log) (g.L.SharedLog.seen c.read_on.new.log) (c.try_to_make.ensures.store known) (c.read_on.ensures.looks.reads known) c.read_on.ensures.looks.goes_on (c.read_on.ensures.looks.first known)

pub returns-then-length-at-clause-ok : goal.returns-then-length-at-clause-ok
returns-then-length-at-clause-ok g c =
    not_made g.L.SharedLog.is_known c.args.turn c.args.hall.now c.try_to_make.new.hall c.read_on.new.hall (g.L.SharedLog.seen c.args.log.now) (g.L.SharedLog.seen c.try_to_make.new.log) (g.L.SharedLog.seen c.read_on.new.log) c.args.by.now c.args.call c.requires.store c.requires.ready c.read_on.ensures.looks c.in-Not.answer c.args.is_read
    (subst (λ (t : Tried). TriesTo g.L.SharedLog.is_known c.args.turn c.args.hall.now (g.L.SharedLog.seen c.args.log.now) c.args.by.now c.args.call t c.try_to_make.new.hall (g.L.SharedLog.seen c.try_to_make.new.log)) c.in-Not.is c.in_ok-reply.ensures.ok) (λ known. inr (c.in-Ok.ensures.all known)) (let l = c.length.ensures.length in let a = c.length-at.ensures.length in let e = c.if-length-at.true in grind (arith, l, a, e))

pub returns-else-length-at-clause-store : goal.returns-else-length-at-clause-store
returns-else-length-at-clause-store g c known = store_looked c.args.turn c.try_to_make.new.hall c.read_on.new.hall (g.L.SharedLog.seen c.try_to_make.new.log) (g.L.SharedLog.seen c.read_on.new.log) (c.try_to_make.ensures.store known) (c.read_on.ensures.looks.reads known) c.read_on.ensures.looks.goes_on (c.read_on.ensures.looks.first known)

pub returns-else-length-at-clause-ok : goal.returns-else-length-at-clause-ok
returns-else-length-at-clause-ok g c =
    let no = (subst (λ (t : Tried). TriesTo g.L.SharedLog.is_known c.args.turn c.args.hall.now (g.L.SharedLog.seen c.args.log.now) c.args.by.now c.args.call t c.try_to_make.new.hall (g.L.SharedLog.seen c.try_to_make.new.log)) c.in-Not.is c.in_ok-reply.ensures.ok) in
    (not_stays g.L.SharedLog.is_known c.args.turn c.args.hall.now c.try_to_make.new.hall c.read_on.new.hall (g.L.SharedLog.seen c.args.log.now) (g.L.SharedLog.seen c.try_to_make.new.log) (g.L.SharedLog.seen c.read_on.new.log) c.args.by.now c.args.call c.requires.store c.requires.ready c.read_on.ensures.looks c.in-Not.answer no, not_ready g.L.SharedLog.is_known c.args.turn c.args.hall.now c.try_to_make.new.hall c.read_on.new.hall (g.L.SharedLog.seen c.args.log.now) (g.L.SharedLog.seen c.try_to_make.new.log) (g.L.SharedLog.seen c.read_on.new.log) c.args.by.now c.args.call c.requires.store c.requires.ready c.read_on.ensures.looks c.in-Not.answer no, λ known. not_more c.args.hall.now c.try_to_make.new.hall c.read_on.new.hall no.0 c.read_on.ensures.looks.goes_on (let l = c.length.ensures.length in let a = c.length-at.ensures.length in let e = c.if-length-at.false in grind (arith, l, a, e)), λ is known. inr (not_read g.L.SharedLog.is_known c.args.turn c.args.hall.now c.try_to_make.new.hall c.read_on.new.hall (g.L.SharedLog.seen c.args.log.now) (g.L.SharedLog.seen c.try_to_make.new.log) (g.L.SharedLog.seen c.read_on.new.log) c.args.by.now c.args.call c.requires.store c.requires.ready c.read_on.ensures.looks c.in-Not.answer no c.in-Ok.ensures.all known))

pub returns-in_err-follow_page-in-Behind-clause-why : goal.returns-in_err-follow_page-in-Behind-clause-why
returns-in_err-follow_page-in-Behind-clause-why g c =
    let p = err_from_is_err_and c.from_residual-in_err-follow_page-in-Behind.result c.from_residual-in_err-follow_page-in-Behind.ensures.1 in
    rw (p.1, p.2) λ known.
    stopped_behind _ g.L.SharedLog.is_known c.args.turn c.args.hall.now c.try_to_make.new.hall c.follow_page.new.hall (g.L.SharedLog.seen c.args.log.now) (g.L.SharedLog.seen c.try_to_make.new.log) c.args.by.now c.args.call c.in-Behind.page _ _
    (subst (λ (t : Tried). TriesTo g.L.SharedLog.is_known c.args.turn c.args.hall.now (g.L.SharedLog.seen c.args.log.now) c.args.by.now c.args.call t c.try_to_make.new.hall (g.L.SharedLog.seen c.try_to_make.new.log)) c.in-Behind.is c.in_ok-reply.ensures.ok) (λ known. (c.try_to_make.ensures.store known).first) known c.in_err-follow_page-in-Behind.ensures.err
