use Prim.Native.Nat.{◌+◌, ◌*◌}
use Rattle.pana_scan.proofs.looking.+looks.Given as goal

abbrev pub decreases-look_in_threads : goal.decreases-look_in_threads
decreases-look_in_threads g l = 2 * l.disks.len

abbrev pub decreases-front : goal.decreases-front
decreases-front g l = 2 * l.disks.len + 1

abbrev pub decreases-back : goal.decreases-back
decreases-back g l = 2 * l.more.len + 1
