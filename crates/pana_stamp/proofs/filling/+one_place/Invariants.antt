use Rattle.std.proofs.Common.{◌+◌, ◌*◌}
use Rattle.pana_stamp.proofs.filling.+one_place.Given as goal

abbrev pub decreases-fill_single : goal.decreases-fill_single
decreases-fill_single l = 3 * l.number + 2

abbrev pub decreases-fill_place : goal.decreases-fill_place
decreases-fill_place l = 3 * l.place

abbrev pub decreases-fill_half : goal.decreases-fill_half
decreases-fill_half l = 3 * l.number + 1
