use Rattle.std.proofs.Common.{length}
use Rattle.pana_transfer.proofs.transferring.+remake_all.Given as goal

abbrev pub decreases-remake_all : goal.decreases-remake_all
decreases-remake_all g l = length l.entries.now
