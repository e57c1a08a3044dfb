use Rattle.std.proofs.Common.{◌≡◌, take}
use Rattle.pana_scan.specs.Notice.{left, renamed}
use Rattle.pana_scan.specs.inner.Pool.{AreInOrder}
use Rattle.pana_scan.specs.inner.Seen.{new_files}
use Rattle.pana_scan.specs.inner.Takers.{CopiesWait}
use Rattle.pana_scan.proofs.Merged.{lent}
use Rattle.pana_scan.proofs.noticing.renamed.Given as goal

-- the files before this one have taken theirs
abbrev pub invariant-loop-file : goal.invariant-loop-file
invariant-loop-file l =
    (l.notices.items ≡ renamed (new_files (take l.file-index l.files)) (lent l.absent))
    × AreInOrder l.copies.rows.items
    × CopiesWait l.copies.rows.items (left (new_files (take l.file-index l.files)) (lent l.absent))
