use Rattle.std.proofs.Common.{◌≡◌, take, string_bytes}
use Rattle.pana_commands.specs.Scan.{lines_for}
use Rattle.pana_commands.proofs.scanning.lines_for.Given as goal

abbrev pub invariant-loop-step : goal.invariant-loop-step
invariant-loop-step l = string_bytes l.lines ≡ lines_for l.device (take l.step-index l.steps)
