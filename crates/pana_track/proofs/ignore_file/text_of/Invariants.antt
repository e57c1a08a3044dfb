use Rattle.std.proofs.Common.{◌≡◌, ◌≤◌, IsTrue, length}
use Rattle.pana_track.proofs.Searched.{IsTaken}
use Rattle.pana_track.proofs.ignore_file.text_of.Given as goal

abbrev pub invariant-loop-made : goal.invariant-loop-made
invariant-loop-made g l = record {
  known : IsTrue g.D.Disk.is_known → IsTaken (g.D.Disk.content l.fn.disk) (g.D.Disk.content l.disk) l._made l.text.items;
  short : length l.text.items ≤ 1048576;
  piece : length l.piece ≡ 4096;
}
