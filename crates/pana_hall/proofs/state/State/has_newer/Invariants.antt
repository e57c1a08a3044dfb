use Rattle.pana_hall.proofs.Words.{◌≡◌, living, list_any}
use Rattle.std.proofs.Common.{drop}
use Rattle.pana_hall.specs.inner.Finding.{is_newer}
use Rattle.pana_hall.proofs.state.State.has_newer.Given as goal

-- none of those before passes
abbrev pub invariant-loop-other : goal.invariant-loop-other
invariant-loop-other l = list_any (is_newer (living l.self.journal.entries) l.copy) l.copies ≡ list_any (is_newer (living l.self.journal.entries) l.copy) (drop l.other-index l.copies)
