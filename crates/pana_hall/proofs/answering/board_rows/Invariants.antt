use Rattle.pana_hall.proofs.Words.{◌≡◌, map, take, placed_row}
use Rattle.pana_hall.proofs.answering.board_rows.Given as goal

abbrev pub invariant-loop-row : goal.invariant-loop-row
invariant-loop-row l = l.rows.items ≡ map (placed_row l.copies) (take l.row-index l.counts)
