use Rattle.pana_daemon.proofs.Counted.{CountedSoFar}
use Rattle.pana_daemon.proofs.newlines.count_newlines.Given as goal

-- the newlines of what was read so far are counted
abbrev pub invariant-loop : goal.invariant-loop
invariant-loop g l = (goal.iterator-loop g).can_next l.iterator' × CountedSoFar g.R.Read.remaining l.fn.ticks l.fn.input l.input l.counter
