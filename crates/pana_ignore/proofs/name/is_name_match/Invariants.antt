use Rattle.std.proofs.Common.{◌≡◌, length}
use Rattle.pana_ignore.specs.Pattern.{is_name_match}
use Rattle.pana_ignore.proofs.name.is_name_match.Given as goal

abbrev pub invariant-loop-piece : goal.invariant-loop-piece
invariant-loop-piece l = is_name_match l.pieces l.name ≡ is_name_match l.before l.rest

abbrev pub decreases-loop-piece : goal.decreases-loop-piece
decreases-loop-piece l = length l.before
