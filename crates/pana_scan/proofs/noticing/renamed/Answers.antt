use Rattle.std.proofs.Common.{sym, ap, ◌∙◌, subst, arith, ◌∷◌, [], ◌++◌, cond, take, append-nil, option_map}
use Rattle.std.proofs.lemmas.List.{take_all}
use Rattle.std.specs.Option.{option_to_list}
use Rattle.pana_scan.specs.declared.notices.Notice.TheVariants as notice
use Rattle.pana_scan.specs.Notice.{left, renamed}
use Rattle.pana_scan.specs.inner.Pool.{AreInOrder}
use Rattle.pana_scan.specs.inner.Seen.{file_of, new_files}
use Rattle.pana_scan.proofs.Merged.{lent}
use Rattle.pana_scan.proofs.Taken.{copies_at, left_more, new_more, renames, waits_on}
use Rattle.pana_scan.proofs.noticing.renamed.Goals as goal
use Rattle.pana_scan.proofs.noticing.renamed.Goals.{then-file+in-Some+in_ok-path+in_ok-push, then-file+in_default, else-file}

pub loop-file-init : goal.loop-file-init
loop-file-init c = (c.new-notices.ensures.items, c.in_ok-copies.ensures.order, c.in_ok-copies.ensures.waiting)

pub take-requires : goal.take-requires
take-requires c = c.loop-file.invariant.1

pub loop-file-preserved : goal.loop-file-preserved
loop-file-preserved c =
    let copies = lent c.args.absent.now in
    let before = new_files (take c.loop-file.file-index c.args.files.now) in
    let file = file_of c.file-item.result in
    let more = new_more c.args.files.now c.loop-file.file-index c.file-item.result c.loop-file-test.true c.file-item.is in
    elim c.if-file.branch [
      | then-file+in-Some+in_ok-path+in_ok-push w ↦
          let files = more ∙ ap (λ b. before ++ cond b (file ∷ []) []) w.if-file.true in
          let rows = ap (λ pool. pool.rows.items) w.copies-is in (
            ap (λ notices. notices.items) w.notices-is ∙ w.in_ok-push.ensures.items
                ∙ (λ i. c.loop-file.invariant.0 i ++ notice.Renamed w.in-Some.copy (w.in_ok-path.ensures i) ∷ [])
                ∙ sym (ap (λ them. renamed them copies) files ∙ renames before file copies c.loop-file.copies.rows.items w.take.result c.loop-file.invariant.2 w.take.ensures.first
                ∙ ap (λ o. renamed before copies ++ option_to_list (option_map (λ number. notice.Renamed number file.path) o)) w.in-Some.is),
            subst AreInOrder (sym rows) w.take.ensures.order,
            copies_at _ _ _ _ rows (ap (λ them. left them copies) files ∙ left_more before file copies)
                (waits_on (λ copy. copy.sum) (λ copy. copy.copy) file.sum c.loop-file.copies.rows.items _ (left before copies) c.loop-file.invariant.2 w.take.ensures.rest),
          )
      | then-file+in_default w ↦
          let files = more ∙ ap (λ b. before ++ cond b (file ∷ []) []) w.if-file.true in
          let rows = ap (λ pool. pool.rows.items) w.copies-is in (
            ap (λ notices. notices.items) w.notices-is ∙ c.loop-file.invariant.0 ∙ sym (append-nil (renamed before copies))
                ∙ sym (ap (λ them. renamed them copies) files ∙ renames before file copies c.loop-file.copies.rows.items w.take.result c.loop-file.invariant.2 w.take.ensures.first
                ∙ ap (λ o. renamed before copies ++ option_to_list (option_map (λ number. notice.Renamed number file.path) o)) w.in_default.is),
            subst AreInOrder (sym rows) w.take.ensures.order,
            copies_at _ _ _ _ rows (ap (λ them. left them copies) files ∙ left_more before file copies)
                (waits_on (λ copy. copy.sum) (λ copy. copy.copy) file.sum c.loop-file.copies.rows.items _ (left before copies) c.loop-file.invariant.2 w.take.ensures.rest),
          )
      | else-file w ↦
          let files = more ∙ ap (λ b. before ++ cond b (file ∷ []) []) w.if-file.false ∙ append-nil before in
          let rows = ap (λ pool. pool.rows.items) w.copies-is in (
            ap (λ notices. notices.items) w.notices-is ∙ c.loop-file.invariant.0 ∙ sym (ap (λ them. renamed them copies) files),
            subst AreInOrder (sym rows) c.loop-file.invariant.1,
            copies_at _ _ _ _ rows (ap (λ them. left them copies) files) c.loop-file.invariant.2,
          )
    ]

pub returns : goal.returns
returns c =
    c.loop-file.invariant.0 ∙ ap (λ files. renamed (new_files files) (lent c.args.absent.now)) (take_all c.loop-file.file-index c.args.files.now (omega (arith, c.loop-file-test.false)))
