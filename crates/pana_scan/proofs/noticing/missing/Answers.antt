use Rattle.std.proofs.Common.{refl, sym, ap, ◌∙◌, arith, ◌∷◌, [], ◌++◌, cond, take, append-nil}
use Rattle.std.proofs.lemmas.List.{take_all}
use Rattle.pana_scan.specs.declared.notices.Notice.TheVariants as notice
use Rattle.pana_scan.specs.Notice.{missing}
use Rattle.pana_scan.specs.inner.Seen.{new_files}
use Rattle.pana_scan.specs.inner.Takers.{files_left, unpaired}
use Rattle.pana_scan.proofs.Merged.{lent}
use Rattle.pana_scan.proofs.Taken.{files_at, files_left_more, left_unpaired, lent_more, missing_more}
use Rattle.pana_scan.proofs.noticing.missing.Goals as goal
use Rattle.pana_scan.proofs.noticing.missing.Goals.{then-not-takes+in_ok-path+in_ok-push, else-not-takes}

pub loop-copy-init : goal.loop-copy-init
loop-copy-init c = (c.new-notices.ensures.items, c.in_ok-takers.ensures.order, c.in_ok-takers.ensures.waiting)

pub takes-requires : goal.takes-requires
takes-requires c = c.loop-copy.invariant.1

pub loop-copy-preserved : goal.loop-copy-preserved
loop-copy-preserved c =
    let files = new_files c.args.files.now in
    let before = lent (take c.loop-copy.copy-index c.args.absent.now) in
    let copy = c.copy-item.result.now in
    let more = lent_more c.args.absent.now c.loop-copy.copy-index c.copy-item.result c.loop-copy-test.true c.copy-item.is in
    let any = c.takes.ensures.found (files_left files before) c.loop-copy.invariant.2 in
    let wait = files_at _ _ _ _ refl (ap (files_left files) more ∙ files_left_more files before copy) (c.takes.ensures.rest (files_left files before) c.loop-copy.invariant.2) in
    elim c.if-not-takes.branch [
      | then-not-takes+in_ok-path+in_ok-push w ↦ (
        ap (λ notices. notices.items) w.notices-is ∙ w.in_ok-push.ensures.items
            ∙ (λ i. c.loop-copy.invariant.0 i ++ notice.Missing (w.in_ok-path.ensures i) ∷ [])
            ∙ sym (ap (λ copies. missing (unpaired files copies)) more ∙ missing_more files before copy
            ∙ ap (λ b. missing (unpaired files before) ++ cond b [] (notice.Missing copy.path ∷ [])) (sym any ∙ w.if-not-takes.true)),
        c.takes.ensures.order,
        wait,
      )
      | else-not-takes w ↦ (
        ap (λ notices. notices.items) w.notices-is ∙ c.loop-copy.invariant.0 ∙ sym (append-nil (missing (unpaired files before)))
            ∙ sym (ap (λ copies. missing (unpaired files copies)) more ∙ missing_more files before copy
            ∙ ap (λ b. missing (unpaired files before) ++ cond b [] (notice.Missing copy.path ∷ [])) (sym any ∙ w.if-not-takes.false)),
        c.takes.ensures.order,
        wait,
      )
    ]

pub returns : goal.returns
returns c =
    c.loop-copy.invariant.0 ∙ ap (λ copies. missing (unpaired (new_files c.args.files.now) (lent copies))) (take_all c.loop-copy.copy-index c.args.absent.now (omega (arith, c.loop-copy-test.false)))
    ∙ sym (ap missing (left_unpaired (new_files c.args.files.now) (lent c.args.absent.now)))
