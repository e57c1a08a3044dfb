use Rattle.pana_hall.proofs.Words.{◌≡◌}
use Rattle.std.proofs.Common.{drop}
use Rattle.pana_hall.specs.inner.Relatives.{first_number, replaces}
use Rattle.pana_hall.proofs.relating.first_newest.Given as goal

-- none of those before passes
abbrev pub invariant-loop-it : goal.invariant-loop-it
invariant-loop-it l = first_number (replaces l.newest l.copy) l.relatives ≡ first_number (replaces l.newest l.copy) (drop l.it-index l.relatives)
