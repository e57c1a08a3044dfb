use Rattle.std.proofs.Common.{IfOk, List, ℕ, subst}
use Rattle.pana_track.specs.IgnoreFile.{IsBehind}
use Rattle.pana_files.proofs.system_disks.read_in_threads.Goals as goal

pub returns-clause-behind : goal.returns-clause-behind
returns-clause-behind g c =
    subst (λ (patterns : List (List ℕ)). IfOk c.read_tracked_in_threads-given.result (λ found. IsBehind patterns found.patterns)) c.patterns_in.ensures c.read_tracked_in_threads-given.ensures.behind
