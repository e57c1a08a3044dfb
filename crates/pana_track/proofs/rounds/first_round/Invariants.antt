use Rattle.std.proofs.Common.{◌≡◌, map, take}
use Rattle.pana_track.proofs.rounds.first_round.Given as goal

-- so many are in the list
abbrev pub invariant-loop-notice : goal.invariant-loop-notice
invariant-loop-notice l = map (λ notice. notice.now) l.all.items ≡ take l.notice-index l.notices
