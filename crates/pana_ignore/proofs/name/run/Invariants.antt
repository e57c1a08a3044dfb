use Rattle.std.proofs.Common.{◌≡◌, true, ◌≤◌, length}
use Rattle.pana_ignore.specs.Match.{some_rest}
use Rattle.pana_ignore.specs.Pattern.{is_name_match}
use Rattle.pana_ignore.proofs.name.run.Given as goal

abbrev pub invariant-loop-piece : goal.invariant-loop-piece
invariant-loop-piece l = record {
  same : is_name_match l.fn.pieces l.fn.name ≡ is_name_match l.ahead l.rest;
  later : some_rest (is_name_match l.fn.pieces) l.fn.name ≡ true → some_rest (is_name_match l.ahead) l.rest ≡ true;
  left : length l.ahead ≤ length l.fn.pieces;
}

abbrev pub decreases-loop-piece : goal.decreases-loop-piece
decreases-loop-piece l = length l.ahead
