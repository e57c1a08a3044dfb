use Rattle.std.proofs.Common.{◌≡◌, ap, ◌∙◌, arith, rules}
use Rattle.std.specs.Prelude.{sum_by}
use Rattle.std.specs.Cmp.Lexicographic.{nat_list_cmp_total}
use Rattle.std.specs.List.Sorted.{IsSortedBy}
use Rattle.std.proofs.lemmas.List.Sorted.{answers_always, ranks_by}
use Rattle.pana_scan.specs.Listing.{Contents, RowsRise}
use Rattle.pana_scan.specs.Scan.{HaveFiles, unreadable_count}
use Rattle.pana_scan.proofs.Looked.{all_looked, precedes, sorted_count, sorted_rise, sorted_rows}
use Rattle.pana_scan.proofs.folder.read_root_in_threads.Goals as goal

pub of_rows-requires : goal.of_rows-requires
of_rows-requires g c =
    let sorted : IsSortedBy precedes c.sort_by.new.self.items =
    c.in_ok-sort_by.ensures.sorted precedes (ranks_by nat_list_cmp_total (λ row. row.path)) (answers_always _ _ _ (λ f a r h called. search rules)) in
    sorted_rise c.in_ok-paths.field-0.paths.items c.in_ok-disks.field-0.rows.items c.sort_by.new.self.items c.in_ok-paths.ensures.rise c.in_ok-disks.ensures.each
    c.in_ok-sort_by.ensures.permutation sorted

pub returns-clause-known : goal.returns-clause-known
returns-clause-known g c known =
    let tree = g.D.Disk.tree c.args.disk.now in
    let all = c.in_ok-paths.ensures.known known in
    let disks = c.requires.known known in
    let have : HaveFiles g.L.Disk.tree tree c.replace-disks.result.items = search rules in
    let sorted : IsSortedBy precedes c.sort_by.new.self.items =
    c.in_ok-sort_by.ensures.sorted precedes (ranks_by nat_list_cmp_total (λ row. row.path)) (answers_always _ _ _ (λ f a r h called. search rules)) in
    let rising : RowsRise c.sort_by.new.self.items =
    sorted_rise c.in_ok-paths.field-0.paths.items c.in_ok-disks.field-0.rows.items c.sort_by.new.self.items c.in_ok-paths.ensures.rise c.in_ok-disks.ensures.each
    c.in_ok-sort_by.ensures.permutation sorted in
    let rows = sorted_rows tree c.args.folder.now c.in_ok-paths.field-0.paths.items c.in_ok-disks.field-0.rows.items c.sort_by.new.self.items c.in_ok-paths.ensures.rise c.in_ok-disks.ensures.each
    c.in_ok-sort_by.ensures.permutation rising (c.in_ok-disks.ensures.found disks.0 tree have) in (
      all.0,
      all_looked tree c.args.folder.now c.args.device.now c.in_ok-paths.field-0.paths.items c.of_rows.result all.1 (ap (λ (it : Contents). it.rows) c.of_rows.ensures ∙ rows) (search rules) (search rules),
    )

pub returns-clause-faults : goal.returns-clause-faults
returns-clause-faults g c =
    let count = ap (λ (it : Contents). unreadable_count it.rows) c.of_rows.ensures ∙ sorted_count c.in_ok-disks.field-0.rows.items c.sort_by.new.self.items c.in_ok-sort_by.ensures.permutation in
    let taken : sum_by g.L.Disk.faults c.replace-disks.result.items ≡ sum_by g.L.Disk.faults c.args.others.now.items = search rules in
    omega (arith, c.list_files.ensures.faults, c.in_ok-disks.ensures.unread, count, taken)
