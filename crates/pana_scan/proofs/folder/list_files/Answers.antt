use Rattle.std.proofs.Common.{◌∙◌, ap, sym, subst, rules}
use Rattle.std.specs.Cmp.Lexicographic.{nat_list_cmp_total}
use Rattle.std.specs.List.Sorted.{IsSorted, IsStrictlySortedBy}
use Rattle.std.specs.Ordering.{is_lt}
use Rattle.std.specs.Str.{bytes_eq}
use Rattle.std.proofs.lemmas.List.Filters.{dedup_is}
use Rattle.std.proofs.lemmas.List.Sorted.{answers_always, ranks_by}
use Rattle.pana_scan.specs.Order.{in_order, path_cmp}
use Rattle.pana_scan.proofs.Looked.{once_in_order, once_rise}
use Rattle.pana_scan.proofs.folder.list_files.Goals as goal

pub returns-clause-known : goal.returns-clause-known
returns-clause-known g c known =
    let all = c.in_ok-files.ensures.known known in
    let sorted : IsSorted path_cmp c.sort_by.new.self.items =
    c.in_ok-sort_by.ensures.sorted (λ one other. is_lt (path_cmp one other)) (ranks_by nat_list_cmp_total (λ path. path)) (answers_always _ _ _ (λ f a r h called. search rules)) in
    let once = dedup_is bytes_eq c.sort_by.new.self.items c.dedup.new.self.items c.dedup.ensures.filtered in (
      all.0,
      once ∙ once_in_order c.in_ok-files.field-0.files.items c.sort_by.new.self.items c.in_ok-sort_by.ensures.permutation sorted ∙ ap in_order all.1,
      all.2,
    )

pub returns-clause-rise : goal.returns-clause-rise
returns-clause-rise g c =
    let sorted : IsSorted path_cmp c.sort_by.new.self.items =
    c.in_ok-sort_by.ensures.sorted (λ one other. is_lt (path_cmp one other)) (ranks_by nat_list_cmp_total (λ path. path)) (answers_always _ _ _ (λ f a r h called. search rules)) in
    subst (IsStrictlySortedBy path_cmp) (sym (dedup_is bytes_eq c.sort_by.new.self.items c.dedup.new.self.items c.dedup.ensures.filtered)) (once_rise c.sort_by.new.self.items sorted)
