use Rattle.std.proofs.Common.{◌≡◌, map, take}
use Rattle.pana_track.specs.Reports.{messages_of}
use Rattle.pana_track.proofs.rounds.messages_of.Given as goal

-- so many have their calls
abbrev pub invariant-loop-notice : goal.invariant-loop-notice
invariant-loop-notice l = l.messages.items ≡ messages_of l.device (map (λ notice. notice.now) (take l.notice-index l.notices))
