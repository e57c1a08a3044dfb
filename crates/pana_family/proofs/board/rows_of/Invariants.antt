use Rattle.pana_family.proofs.Words.{◌≡◌, map, take, counts_of, own_number, rel_of, row_of}
use Rattle.pana_family.proofs.board.rows_of.Given as goal

abbrev pub invariant-loop-at : goal.invariant-loop-at
invariant-loop-at l = l.rows.items ≡ map (λ copy. row_of copy (counts_of own_number (rel_of l.pairs) l.pairs.copies copy)) (take l.at l.pairs.copies)
