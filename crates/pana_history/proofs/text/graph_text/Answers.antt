use Rattle.std.proofs.Common.{ℕ, List, [], ◌++◌, take, sym, ap, ◌∙◌}
use Rattle.std.proofs.lemmas.List.{flat_map_more}
use Rattle.pana_history.specs.Text.{graph_text, row_line}
use Rattle.pana_history.proofs.Found.{next_item}
use Rattle.pana_history.proofs.text.graph_text.Goals as goal

pub loop-row-preserved : goal.loop-row-preserved
loop-row-preserved c =
    let rows = c.args.rows.now in
    let i = c.loop-row.row-index in
    let row = c.row-item.result in
    c.in_ok-push_line.ensures ∙ ap (λ (text : List ℕ). text ++ row_line row) c.loop-row.invariant ∙ flat_map_more row_line [] (take i rows) row
    ∙ sym (ap graph_text (next_item rows i row c.loop-row-test.true c.row-item.is))
