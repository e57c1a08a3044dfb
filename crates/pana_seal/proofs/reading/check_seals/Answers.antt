use Rattle.std.proofs.Common.{rules, ◌≡◌, false}
use Rattle.std.specs.List.{list_any}
use Rattle.pana_wire.specs.Lines.{texts}
use Rattle.pana_seal.specs.Seal.{demands_seals}
use Rattle.pana_seal.proofs.Intact.{intact_undemanded}
use Rattle.pana_seal.proofs.reading.check_seals.Goals as goal

pub returns-then-not-demand_seals-clause-intact : goal.returns-then-not-demand_seals-clause-intact
returns-then-not-demand_seals-clause-intact c =
    let none : list_any demands_seals (texts c.args.lines.now) ≡ false = search rules in
    intact_undemanded (texts c.args.lines.now) none
