use Rattle.std.proofs.Common.{◌≡◌, take}
use Rattle.std.specs.List.{list_any}
use Rattle.pana_log.specs.Lines.{text_of}
use Rattle.pana_wire.specs.Lines.{texts}
use Rattle.pana_seal.specs.Seal.{Covers, IsIntact, demands_seals}
use Rattle.pana_seal.proofs.reading.read_seals.Given as goal

abbrev pub invariant-loop-index : goal.invariant-loop-index
invariant-loop-index l = record {
  covers : Covers l.sealer (text_of (texts (take l.index l.lines)));
  intact : IsIntact (texts (take l.index l.lines));
  due : l.is_due ≡ list_any demands_seals (texts (take l.index l.lines));
}
