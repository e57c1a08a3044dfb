use Rattle.std.proofs.Common.{◌≡◌, flat_map, string_bytes}
use Rattle.pana_terminal.specs.Shown.{shown_char}
use Rattle.pana_terminal.proofs.showing.shown_by_char.Given as goal

abbrev pub invariant-loop-c : goal.invariant-loop-c
invariant-loop-c l = string_bytes l.out ≡ flat_map shown_char l.yielded
