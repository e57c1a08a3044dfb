use Rattle.std.proofs.Common.{◌≡◌, take}
use Rattle.pana_track.specs.Ignored.{tracked}
use Rattle.pana_track.proofs.tracking.tracked.Given as goal

abbrev pub invariant-loop-copy : goal.invariant-loop-copy
invariant-loop-copy l = l.copies.items ≡ tracked l.patterns (take l.copy-index l.holdings)
