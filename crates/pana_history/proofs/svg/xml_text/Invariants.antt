use Rattle.std.proofs.Common.{◌≡◌, flat_map, string_bytes}
use Rattle.pana_history.specs.Svg.{xml_char}
use Rattle.pana_history.proofs.svg.xml_text.Given as goal

abbrev pub invariant-loop-c : goal.invariant-loop-c
invariant-loop-c l = string_bytes l.out ≡ flat_map xml_char l.yielded
