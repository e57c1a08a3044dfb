use Rattle.std.proofs.Common.{length}
use Rattle.pana_commands.proofs.tracking.+track_all.Given as goal

abbrev pub decreases-track_all : goal.decreases-track_all
decreases-track_all g l = length l.folders.now
