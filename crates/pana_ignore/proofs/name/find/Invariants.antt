use Rattle.std.proofs.Common.{◌≡◌, length}
use Rattle.pana_ignore.specs.Match.{some_rest}
use Rattle.pana_ignore.specs.Pattern.{is_name_match}
use Rattle.pana_ignore.proofs.name.find.Given as goal

abbrev pub invariant-loop-rest : goal.invariant-loop-rest
invariant-loop-rest l = some_rest (is_name_match l.pieces) l.name ≡ some_rest (is_name_match l.pieces) l.rest

abbrev pub decreases-loop-rest : goal.decreases-loop-rest
decreases-loop-rest l = length l.rest
