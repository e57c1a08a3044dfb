use Rattle.std.proofs.Common.{◌≡◌, ℕ, ◌<◌, true}
use Rattle.pana_turn.specs.Closing.{has_pass}
use Rattle.pana_turn.proofs.closing.has_all.Given as goal

-- each pass so far is there
abbrev pub invariant-loop-number : goal.invariant-loop-number
invariant-loop-number g l = (k : ℕ) → k < l.number → has_pass l.passes k ≡ true
