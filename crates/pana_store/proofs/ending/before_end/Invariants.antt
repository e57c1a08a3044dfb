use Rattle.std.proofs.Common.{◌≡◌, ◌++◌, true, take, drop}
use Rattle.pana_store.specs.Ending.{before_end}
use Rattle.pana_store.proofs.ending.before_end.Given as goal

abbrev pub invariant-loop-index : goal.invariant-loop-index
invariant-loop-index l = before_end true l.file ≡ take l.index l.file ++ before_end l.starts (drop l.index l.file)
