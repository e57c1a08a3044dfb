use Rattle.std.proofs.Common.{ℕ, List, ◌++◌, take, sym, ap, ap₂, ◌∙◌, arith}
use Rattle.pana_history.specs.Svg.{row_groups}
use Rattle.pana_history.proofs.Found.{next_item}
use Rattle.pana_history.proofs.Pictured.{groups_push}
use Rattle.std.proofs.lemmas.List.{length-take-le}
use Rattle.pana_history.proofs.svg.row_groups.Goals as goal

pub loop-row-preserved : goal.loop-row-preserved
loop-row-preserved c =
    let rows = c.args.rows.now in
    let i = c.loop-row.row-index in
    let row = c.row-item.result in
    let far = c.loop-row.invariant in
    let y = far.y in
    let within = c.loop-row-test.true in
    let count = length-take-le i rows (omega arith) in
    record {
      text =
          c.in_ok-push_str.ensures.bytes
          ∙ ap₂ (λ (a b : List ℕ). a ++ b) far.text (c.as_str.ensures.value ∙ c.in_ok-row_group.ensures)
          ∙ sym (ap (row_groups 0) (next_item rows i row within c.row-item.is) ∙ groups_push 0 (take i rows) row c.loop-row.y (omega arith));
      y = omega arith;
    }
