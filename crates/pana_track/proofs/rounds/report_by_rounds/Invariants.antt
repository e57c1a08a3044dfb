use Rattle.std.proofs.Common.{map}
use Rattle.pana_track.proofs.ByRounds.{RoundsSoFar}
use Rattle.pana_track.proofs.rounds.report_by_rounds.Given as goal

-- so many rounds were made
abbrev pub invariant-loop : goal.invariant-loop
invariant-loop g l = RoundsSoFar g.S.Session.step l.fn.device l.fn.notices l.counter (map (λ notice. notice.now) l.round.items) l.fn.session l.session l.fn.tally l.tally
