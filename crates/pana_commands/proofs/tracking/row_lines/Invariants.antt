use Rattle.std.proofs.Common.{◌≡◌, string_bytes}
use Rattle.pana_commands.specs.Track.{row_lines}
use Rattle.pana_commands.proofs.tracking.row_lines.Given as goal

abbrev pub invariant-loop-row : goal.invariant-loop-row
invariant-loop-row l = string_bytes l.text ≡ row_lines l.yielded
