use Rattle.std.proofs.Common.{◌≡◌, ◌++◌, take, string_bytes}
use Rattle.std.specs.List.{flat_map}
use Rattle.pana_report.specs.Status.{newest_line}
use Rattle.pana_report.proofs.status.write_all_newest.Given as goal

abbrev pub invariant-loop-copy : goal.invariant-loop-copy
invariant-loop-copy l = string_bytes l.text ≡ string_bytes l.initial.text ++ flat_map (newest_line l.limits) (take l.copy-index l.newest)
