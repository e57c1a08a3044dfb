use Rattle.std.proofs.Common.{◌≡◌, false, take}
use Rattle.std.specs.List.{All}
use Rattle.pana_scan.specs.inner.Seen.{new_files}
use Rattle.pana_scan.specs.inner.Takers.{FilesWait}
use Rattle.pana_scan.proofs.noticing.files_by_sum.Given as goal

abbrev pub invariant-loop-file : goal.invariant-loop-file
invariant-loop-file l = FilesWait l.rows.items (new_files (take l.file-index l.files)) × All (λ row. row.is_taken ≡ false) l.rows.items
