use Rattle.pana_hall.proofs.Words.{◌≡◌, living}
use Rattle.std.proofs.Common.{drop}
use Rattle.pana_hall.specs.inner.{Finding.is_unlike, Relatives.first_number}
use Rattle.pana_hall.proofs.state.State.first_unlike.Given as goal

-- none of those before passes
abbrev pub invariant-loop-it : goal.invariant-loop-it
invariant-loop-it l = first_number (is_unlike (living l.self.journal.entries) l.sum l.copy) l.relatives ≡ first_number (is_unlike (living l.self.journal.entries) l.sum l.copy) (drop l.it-index l.relatives)
