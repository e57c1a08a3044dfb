use Rattle.pana_hall.proofs.Words.{◌≡◌, list_any}
use Rattle.std.proofs.Common.{drop}
use Rattle.pana_hall.specs.inner.Finding.{is_other}
use Rattle.pana_hall.proofs.deciding.has_other.Given as goal

-- none of those before passes
abbrev pub invariant-loop-it : goal.invariant-loop-it
invariant-loop-it l = list_any (is_other l.copy) l.relatives ≡ list_any (is_other l.copy) (drop l.it-index l.relatives)
