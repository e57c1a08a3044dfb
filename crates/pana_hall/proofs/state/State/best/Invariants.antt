use Rattle.pana_hall.proofs.Words.{◌≡◌, find, list_any, living, not}
use Rattle.std.proofs.Common.{drop}
use Rattle.pana_hall.specs.inner.Finding.{best_in, is_newer}
use Rattle.pana_hall.proofs.state.State.best.Given as goal

-- none of those before passes
abbrev pub invariant-loop-copy : goal.invariant-loop-copy
invariant-loop-copy l = best_in (living l.self.journal.entries) l.copies ≡ find (λ number. not (list_any (is_newer (living l.self.journal.entries) number) l.copies)) (drop l.copy-index l.copies)
