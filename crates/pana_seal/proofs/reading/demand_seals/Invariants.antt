use Rattle.std.proofs.Common.{◌≡◌, drop}
use Rattle.std.specs.List.{list_any}
use Rattle.pana_wire.specs.Lines.{texts}
use Rattle.pana_seal.specs.Seal.{demands_seals}
use Rattle.pana_seal.proofs.reading.demand_seals.Given as goal

abbrev pub invariant-loop-line : goal.invariant-loop-line
invariant-loop-line l = list_any demands_seals (texts l.lines) ≡ list_any demands_seals (texts (drop l.line-index l.lines))
