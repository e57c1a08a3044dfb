use Rattle.pana_hall.proofs.Words.{◌≡◌}
use Rattle.std.proofs.Common.{drop}
use Rattle.pana_hall.specs.inner.{Finding.is_other, Relatives.first_number}
use Rattle.pana_hall.proofs.deciding.first_other.Given as goal

-- none of those before passes
abbrev pub invariant-loop-it : goal.invariant-loop-it
invariant-loop-it l = first_number (is_other l.copy) l.relatives ≡ first_number (is_other l.copy) (drop l.it-index l.relatives)
