use Rattle.std.proofs.Common.{◌≡◌, ◌++◌, length}
use Rattle.pana_scan.specs.Notice.{absent_of, files_of, new_files_of}
use Rattle.pana_scan.specs.inner.Left.{AllRise, left}
use Rattle.pana_scan.specs.inner.Seen.{all_files, new_files}
use Rattle.pana_scan.proofs.Merged.{lent}
use Rattle.pana_scan.proofs.noticing.notice.Given as goal

-- what was seen and what is left make all that is seen
abbrev pub invariant-loop-spot : goal.invariant-loop-spot
invariant-loop-spot l =
    AllRise l.sources
    × (all_files l.seen.files.items ++ files_of (left l.sources) ≡ files_of (left l.initial.sources))
    × (new_files l.seen.files.items ++ new_files_of (left l.sources) ≡ new_files_of (left l.initial.sources))
    × (lent l.seen.absent.items ++ absent_of (left l.sources) ≡ absent_of (left l.initial.sources))

abbrev pub decreases-loop-spot : goal.decreases-loop-spot
decreases-loop-spot l = length (left l.sources)
