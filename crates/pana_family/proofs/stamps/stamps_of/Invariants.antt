use Rattle.pana_family.proofs.Words.{◌≡◌, map, filter, take, is_copy, text_of, row_text}
use Rattle.pana_family.proofs.stamps.stamps_of.Given as goal

abbrev pub invariant-loop-row : goal.invariant-loop-row
invariant-loop-row l = map text_of l.stamps.items ≡ map row_text (filter (λ row. is_copy row.holder) (take l.row-index l.rows))
