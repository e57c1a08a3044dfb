use Rattle.std.proofs.Common.{◌≡◌, take}
use Rattle.pana_scan.specs.Notice.{missing}
use Rattle.pana_scan.specs.inner.Pool.{AreInOrder}
use Rattle.pana_scan.specs.inner.Seen.{new_files}
use Rattle.pana_scan.specs.inner.Takers.{FilesWait, files_left, unpaired}
use Rattle.pana_scan.proofs.Merged.{lent}
use Rattle.pana_scan.proofs.noticing.missing.Given as goal

-- the copies before this one have taken theirs
abbrev pub invariant-loop-copy : goal.invariant-loop-copy
invariant-loop-copy l =
    (l.notices.items ≡ missing (unpaired (new_files l.files) (lent (take l.copy-index l.absent))))
    × AreInOrder l.takers.rows.items
    × FilesWait l.takers.rows.items (files_left (new_files l.files) (lent (take l.copy-index l.absent)))
