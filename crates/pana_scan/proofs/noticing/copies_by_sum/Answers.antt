use Rattle.std.proofs.Common.{◌≡◌, refl, sym, ap, ◌∙◌, subst, false, [], arith, take, map, List, ℕ}
use Rattle.std.specs.Prelude.{filter}
use Rattle.std.proofs.lemmas.Result.{IfOk-weaker}
use Rattle.pana_scan.specs.Notice.{holds}
use Rattle.std.specs.List.{All}
use Rattle.std.proofs.lemmas.List.{take_all}
use Rattle.std.proofs.lemmas.List.Elements.{All-push}
use Rattle.pana_scan.specs.inner.Pool.{waiting}
use Rattle.pana_scan.specs.inner.Takers.{CopiesWait}
use Rattle.pana_scan.proofs.Merged.{lent}
use Rattle.pana_scan.proofs.Taken.{copies_at, lent_more, waits_more, waits_same}
use Rattle.pana_scan.proofs.noticing.copies_by_sum.Goals as goal
use Rattle.pana_scan.proofs.noticing.copies_by_sum.Goals.{in-Some+in_ok-push, in_default}

pub loop-copy-init : goal.loop-copy-init
loop-copy-init c = (
  copies_at c.new-rows.result.items [] [] [] c.new-rows.ensures.items refl (λ sum. refl),
  subst (All (λ row. row.is_taken ≡ false)) (sym c.new-rows.ensures.items) (λ k d within. absurd (omega (arith, within))),
)

pub loop-copy-preserved : goal.loop-copy-preserved
loop-copy-preserved c =
    let before = lent (take c.loop-copy.copy-index c.args.copies.now) in
    let more = lent_more c.args.copies.now c.loop-copy.copy-index c.copy-item.result c.loop-copy-test.true c.copy-item.is in
    elim c.match-copy.branch [
      | in-Some+in_ok-push w ↦
          let rows = ap (λ rows. rows.items) w.rows-is ∙ w.in_ok-push.ensures.items in (
            copies_at c.match-copy.rows.items _ _ _ rows more
                (waits_more (λ copy. copy.sum) (λ copy. copy.copy) c.loop-copy.rows.items before _ c.copy-item.result.now c.loop-copy.invariant.0 w.in-Some.is refl refl),
            subst (All (λ row. row.is_taken ≡ false)) (sym rows) (All-push (λ row. row.is_taken ≡ false) c.loop-copy.rows.items _ c.loop-copy.invariant.1 refl),
          )
      | in_default w ↦
          let rows = ap (λ rows. rows.items) w.rows-is in (
            copies_at c.match-copy.rows.items _ _ _ rows more
                (waits_same (λ copy. copy.sum) (λ copy. copy.copy) c.loop-copy.rows.items before c.copy-item.result.now c.loop-copy.invariant.0 w.in_default.is),
            subst (All (λ row. row.is_taken ≡ false)) (sym rows) c.loop-copy.invariant.1,
          )
    ]

pub new-requires : goal.new-requires
new-requires c = c.loop-copy.invariant.1

pub returns-clause-waiting : goal.returns-clause-waiting
returns-clause-waiting c =
    let all = ap lent (take_all c.loop-copy.copy-index c.args.copies.now (omega (arith, c.loop-copy-test.false))) in
    IfOk-weaker c.new.result (λ pool. (sum : List ℕ) → waiting sum pool.rows.items ≡ waiting sum c.loop-copy.rows.items) (λ pool. CopiesWait pool.rows.items (lent c.args.copies.now))
    (λ pool same sum. same sum ∙ c.loop-copy.invariant.0 sum ∙ ap (λ copies. map (λ copy. copy.copy) (filter (holds sum) copies)) all) c.new.ensures.same
