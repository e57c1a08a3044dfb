use Rattle.std.proofs.Common.{◌≡◌, false, rules}
use Rattle.std.specs.Cmp.Lexicographic.{nat_list_cmp_total}
use Rattle.std.proofs.lemmas.List.Sorted.{All-permutation, answers_always, ranks_by}
use Rattle.pana_scan.proofs.Pooled.{precedes, sorted_order, sorted_waiting}
use Rattle.pana_scan.proofs.pool.Pool.new.Goals as goal

pub returns-clause-order : goal.returns-clause-order
returns-clause-order g c =
    sorted_order c.sort_by.new.self.items
    (c.in_ok-sort_by.ensures.sorted precedes (ranks_by nat_list_cmp_total (λ row. row.sum.now)) (answers_always _ _ _ (λ f a r g called. search rules)))
    (All-permutation (λ row. row.is_taken ≡ false) c.args.rows.items c.sort_by.new.self.items c.in_ok-sort_by.ensures.permutation c.requires)

pub returns-clause-same : goal.returns-clause-same
returns-clause-same g c =
    sorted_waiting c.args.rows.items c.sort_by.new.self.items c.in_ok-sort_by.ensures.permutation
    (c.in_ok-sort_by.ensures.stable precedes (ranks_by nat_list_cmp_total (λ row. row.sum.now)) (answers_always _ _ _ (λ f a r g called. search rules)))
