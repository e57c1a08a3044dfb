use Rattle.pana_family.proofs.Words.{◌≡◌, ◌≤◌, ◌+◌, ◌++◌, take, drop, IsRising, row_at, placed_all, formers, puts, vec_len, vec_capacity}
use Rattle.pana_family.proofs.change.exchange_all.Given as goal

abbrev pub invariant-loop-at : goal.invariant-loop-at
invariant-loop-at l = record {
  rising : IsRising 0 l.items.items;
  rows : row_at l.items.items ≡ placed_all (take l.at l.initial.news) (row_at l.initial.items.items);
  news : l.news ≡ formers (take l.at l.initial.news) (row_at l.initial.items.items) ++ drop l.at l.initial.news;
  size : vec_len l.items + puts l.news ≡ vec_len l.initial.items + puts l.initial.news;
  capacity : vec_capacity l.initial.items ≤ vec_capacity l.items;
}
