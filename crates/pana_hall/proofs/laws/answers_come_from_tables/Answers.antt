use Rattle.pana_hall.proofs.Words.{◌≡◌, ℕ, List, filter, length, nat_lt, list_any, refl, sym, ap, ◌∙◌, length-filter, families, table, Copy, copy_in, known_to, living, is_of, family_row}
use Rattle.pana_hall.specs.Board.{board_of}
use Rattle.pana_hall.proofs.{Answered.any_count, Lists.filter_twice, Sound.accepted_is_sound, Tables.merged, Tables.table_living}
use Rattle.pana_hall.proofs.laws.answers_come_from_tables.Goals as goal

known_same : (number : ℕ) (xs ys : List Copy) → copy_in xs number ≡ copy_in ys number → known_to xs number ≡ known_to ys number
known_same number xs ys e = rw (e) refl

board_same : (family : ℕ) (copies : List Copy) → board_of family (filter (is_of family) copies) ≡ board_of family copies
unfolding board_of
board_same family copies = rw (filter_twice (is_of family) copies) refl

row_same : (family : ℕ) (copies : List Copy) → family_row (filter (is_of family) copies) family ≡ family_row copies family
row_same family copies = rw (filter_twice (is_of family) copies) refl

any_same : (family : ℕ) (copies : List Copy) → list_any (is_of family) (filter (is_of family) copies) ≡ list_any (is_of family) copies
any_same family copies = any_count (is_of family) (filter (is_of family) copies) ∙ ap (λ l. nat_lt 0 (length l)) (filter_twice (is_of family) copies) ∙ sym (any_count (is_of family) copies)

pub returns : goal.returns
returns c = record {
  board = λ journal family. ap (board_of family) (sym (table_living 8 family journal)) ∙ board_same family (living journal);
  row = λ journal family. ap (λ l. family_row l family) (sym (table_living 8 family journal)) ∙ row_same family (living journal);
  lives = λ journal family. ap (list_any (is_of family)) (sym (table_living 8 family journal)) ∙ any_same family (living journal);
  known = λ journal number accepted. known_same number (living journal) (table 8 0 (families journal number) journal) ((merged 8 journal (accepted_is_sound 8 journal accepted)).found number);
  count = λ journal family. ap length (sym (table_living 8 family journal)) ∙ length-filter (is_of family) (living journal);
}
