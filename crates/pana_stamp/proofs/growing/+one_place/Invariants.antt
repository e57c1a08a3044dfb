use Rattle.std.proofs.Common.{◌+◌, ◌*◌}
use Rattle.pana_stamp.proofs.growing.+one_place.Given as goal

abbrev pub decreases-grow_single : goal.decreases-grow_single
decreases-grow_single l = 2 * l.number + 1

abbrev pub decreases-grow_place : goal.decreases-grow_place
decreases-grow_place l = 2 * l.place
