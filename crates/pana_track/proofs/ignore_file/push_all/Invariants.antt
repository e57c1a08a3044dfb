use Rattle.std.proofs.Common.{◌≡◌, ◌++◌, map, take}
use Rattle.pana_track.specs.IgnoreFile.{spelled}
use Rattle.pana_track.proofs.ignore_file.push_all.Given as goal

abbrev pub invariant-loop-text : goal.invariant-loop-text
invariant-loop-text l = l.patterns ≡ l.fn.patterns ++ spelled (map (λ text. text.now) (take l.text-index l.more))
