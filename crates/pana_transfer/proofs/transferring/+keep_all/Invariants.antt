use Rattle.std.proofs.Common.{length}
use Rattle.pana_transfer.proofs.transferring.+keep_all.Given as goal

abbrev pub decreases-keep_all : goal.decreases-keep_all
decreases-keep_all g l = length l.entries.now
