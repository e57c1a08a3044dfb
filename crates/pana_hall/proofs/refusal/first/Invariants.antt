use Rattle.pana_hall.proofs.Words.{◌≡◌}
use Rattle.std.proofs.Common.{drop}
use Rattle.pana_hall.specs.Refusal.{first}
use Rattle.pana_hall.proofs.refusal.first.Given as goal

-- none of those before holds
abbrev pub invariant-loop-cause : goal.invariant-loop-cause
invariant-loop-cause l = first l.causes ≡ first (drop l.cause-index l.causes)
