use Rattle.std.proofs.Common.{◌-◌, map, length}
use Rattle.pana_track.proofs.ByRounds.{RoundSoFar}
use Rattle.pana_track.proofs.rounds.report_round.Given as goal

-- so many were reported
abbrev pub invariant-loop-done : goal.invariant-loop-done
invariant-loop-done g l = RoundSoFar g.S.Session.step l.fn.device (map (λ notice. notice.now) l.fn.notices) l.done l.fn.session l.session l.fn.tally l.tally (map (λ notice. notice.now) l.fn.left.items) (map (λ notice. notice.now) l.left.items)

abbrev pub decreases-loop-done : goal.decreases-loop-done
decreases-loop-done g l = length l.fn.notices - l.done
