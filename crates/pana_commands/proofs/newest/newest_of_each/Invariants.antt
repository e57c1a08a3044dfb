use Rattle.pana_commands.specs.Newest.{newest_in}
use Rattle.pana_commands.proofs.Boarded.{BoardsSoFar}
use Rattle.pana_commands.proofs.newest.newest_of_each.Given as goal

-- the newest copies so far
abbrev pub invariant-loop-family : goal.invariant-loop-family
invariant-loop-family g l = BoardsSoFar g.S.Session.step l.fn.by newest_in l.fn.families l.family-index l.fn.session l.session l.newest
