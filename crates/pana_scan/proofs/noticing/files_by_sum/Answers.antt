use Rattle.std.proofs.Common.{◌≡◌, refl, sym, ap, ◌∙◌, subst, false, [], arith, take, map, List, ℕ, cond, Some, ◌∷◌, ◌++◌, append-nil}
use Rattle.std.specs.Prelude.{filter}
use Rattle.std.proofs.lemmas.Result.{IfOk-weaker}
use Rattle.pana_scan.specs.Notice.{is_known}
use Rattle.pana_scan.specs.inner.Seen.{file_of, new_files}
use Rattle.std.specs.List.{All}
use Rattle.std.proofs.lemmas.List.{take_all}
use Rattle.std.proofs.lemmas.List.Elements.{All-push}
use Rattle.pana_scan.specs.inner.Pool.{waiting}
use Rattle.pana_scan.specs.inner.Takers.{FilesWait}
use Rattle.pana_scan.proofs.Taken.{files_at, new_more, waits_more}
use Rattle.pana_scan.proofs.noticing.files_by_sum.Goals as goal
use Rattle.pana_scan.proofs.noticing.files_by_sum.Goals.{then-file+in_ok-push, else-file}

pub loop-file-init : goal.loop-file-init
loop-file-init c = (
  files_at c.new-rows.result.items [] [] [] c.new-rows.ensures.items refl (λ sum. refl),
  subst (All (λ row. row.is_taken ≡ false)) (sym c.new-rows.ensures.items) (λ k d within. absurd (omega (arith, within))),
)

pub loop-file-preserved : goal.loop-file-preserved
loop-file-preserved c =
    let before = new_files (take c.loop-file.file-index c.args.files.now) in
    let more = new_more c.args.files.now c.loop-file.file-index c.file-item.result c.loop-file-test.true c.file-item.is in
    elim c.if-file.branch [
      | then-file+in_ok-push w ↦
          let rows = ap (λ rows. rows.items) w.rows-is ∙ w.in_ok-push.ensures.items in (
            files_at c.if-file.rows.items _ _ _ rows (more ∙ ap (λ b. before ++ cond b (file_of c.file-item.result ∷ []) []) w.if-file.true)
                (waits_more (λ file. Some file.sum) (λ file. tt) c.loop-file.rows.items before _ (file_of c.file-item.result) c.loop-file.invariant.0 refl refl refl),
            subst (All (λ row. row.is_taken ≡ false)) (sym rows) (All-push (λ row. row.is_taken ≡ false) c.loop-file.rows.items _ c.loop-file.invariant.1 refl),
          )
      | else-file w ↦
          let rows = ap (λ rows. rows.items) w.rows-is in (
            files_at c.if-file.rows.items _ _ _ rows (more ∙ ap (λ b. before ++ cond b (file_of c.file-item.result ∷ []) []) w.if-file.false ∙ append-nil before) c.loop-file.invariant.0,
            subst (All (λ row. row.is_taken ≡ false)) (sym rows) c.loop-file.invariant.1,
          )
    ]

pub new-requires : goal.new-requires
new-requires c = c.loop-file.invariant.1

pub returns-clause-waiting : goal.returns-clause-waiting
returns-clause-waiting c =
    let all = ap new_files (take_all c.loop-file.file-index c.args.files.now (omega (arith, c.loop-file-test.false))) in
    IfOk-weaker c.new.result (λ pool. (sum : List ℕ) → waiting sum pool.rows.items ≡ waiting sum c.loop-file.rows.items) (λ pool. FilesWait pool.rows.items (new_files c.args.files.now))
    (λ pool same sum. same sum ∙ c.loop-file.invariant.0 sum ∙ ap (λ files. map (λ file. tt) (filter (λ file. is_known sum (Some file.sum)) files)) all) c.new.ensures.same
