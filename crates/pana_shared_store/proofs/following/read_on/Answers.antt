use Rattle.std.proofs.Common.{rules, ◌≢◌, ℕ, [], ◌∷◌, sym, subst, refl, append-nil}
use native.Mathlib.Omega.{arith}
use Rattle.std.proofs.lemmas.Result.{err_from_is_err_and}
use Rattle.pana_shared_store.proofs.Followed.{looks_none, looks_only, looks_page, still_first}
use Rattle.pana_shared_store.proofs.Strange.{stopped_page}
use Rattle.pana_shared_store.proofs.Tried.{followed_some}
use Rattle.pana_shared.specs.Log.{IsAt}
use Rattle.pana_shared_store.specs.Store.{entries_in}
use Rattle.pana_shared_store.proofs.following.read_on.Goals as goal

pub loop-init : goal.loop-init
loop-init g c = record {
  looks = looks_none g.L.SharedLog.is_known c.args.hall.now _ c.requires.first;
  heard = λ known. omega arith;
  pages = omega arith;
}

pub returns-in_err-page-clause-looks : goal.returns-in_err-page-clause-looks
returns-in_err-page-clause-looks g c = looks_only g.L.SharedLog.is_known _ _ _ _ _ c.requires.some c.loop.invariant.looks c.read.ensures.grows

pub returns-then-is_empty-clause-looks : goal.returns-then-is_empty-clause-looks
returns-then-is_empty-clause-looks g c = looks_only g.L.SharedLog.is_known _ _ _ _ _ c.requires.some c.loop.invariant.looks c.read.ensures.grows

pub returns-in_err-follow_page-clause-looks : goal.returns-in_err-follow_page-clause-looks
returns-in_err-follow_page-clause-looks g c =
    let err = c.in_err-follow_page.ensures.err in
    looks_page g.L.SharedLog.is_known _ _ _ _ _ _ c.in_ok-page.page.items err.0 (err.1 ∷ err.2) c.requires.some c.loop.invariant.looks c.read.ensures.grows
    (λ known some. subst (λ (n : ℕ). IsAt n c.in_ok-page.page.items (g.L.SharedLog.seen c.read.new.self).records) c.length.ensures.length (c.in_ok-page.ensures.part known some)) err.3 err.4

pub returns-in_err-follow_page-clause-why : goal.returns-in_err-follow_page-clause-why
returns-in_err-follow_page-clause-why g c =
    let p = err_from_is_err_and c.from_residual-in_err-follow_page.result c.from_residual-in_err-follow_page.ensures.1 in
    rw (p.1, p.2) λ known.
    stopped_page _ 0 c.args.hall.now c.loop.hall c.follow_page.new.hall _ _ c.in_ok-page.page.items (g.L.SharedLog.seen c.read.new.self).records
    (still_first c.loop.hall (g.L.SharedLog.seen c.loop.log) [] (g.L.SharedLog.seen c.read.new.self).records (c.loop.invariant.looks.first known) (c.read.ensures.grows known).grows)
    (λ some. subst (λ (n : ℕ). IsAt n c.in_ok-page.page.items (g.L.SharedLog.seen c.read.new.self).records) c.length.ensures.length (c.in_ok-page.ensures.part known some)) c.in_err-follow_page.ensures.err

pub loop-preserved : goal.loop-preserved
loop-preserved g c = record {
  looks = looks_page g.L.SharedLog.is_known _ _ _ _ _ _ c.in_ok-page.page.items (entries_in c.in_ok-page.page.items) [] c.requires.some c.loop.invariant.looks c.read.ensures.grows
      (λ known some. subst (λ (n : ℕ). IsAt n c.in_ok-page.page.items (g.L.SharedLog.seen c.read.new.self).records) c.length.ensures.length (c.in_ok-page.ensures.part known some)) c.in_ok-follow_page.ensures.ok (sym (append-nil _));
  heard = λ known. (let h = c.loop.invariant.heard known in let r = c.in_ok-page.ensures.heard known in omega (arith, h, r));
  pages = (
      let some : c.in_ok-page.page.items ≢ [] = search rules in
      let more = followed_some c.loop.hall c.loop.hall c.follow_page.new.hall c.in_ok-page.page.items refl c.in_ok-follow_page.ensures.ok some in
      let p = c.loop.invariant.pages in
      omega (arith, more, p));
}
