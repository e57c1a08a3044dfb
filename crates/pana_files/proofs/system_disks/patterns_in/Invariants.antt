use Rattle.std.proofs.Common.{◌≡◌, drop}
use Rattle.pana_files.specs.Passed.{passed_in}
use Rattle.pana_files.proofs.system_disks.patterns_in.Given as goal

-- none of those so far is of the folder
abbrev pub invariant-loop-one : goal.invariant-loop-one
invariant-loop-one l = passed_in l.passed l.folder ≡ passed_in (drop l.one-index l.passed) l.folder
