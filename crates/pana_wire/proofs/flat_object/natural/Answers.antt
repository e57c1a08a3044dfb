-- It is an integer of 64 bits, with no sign.
use Rattle.std.proofs.Common.{◌∙◌, ap, subst, sym}
use Rattle.json.specs.Print.{IsNumber}
use Rattle.serde_json.specs.Read.{number_of}
use Rattle.pana_wire.proofs.FlatObject.{natural_is}
use Rattle.pana_wire.proofs.flat_object.natural.Goals as goal

pub returns-in-Ok : goal.returns-in-Ok
returns-in-Ok c =
    let same = c.as_bytes.ensures.value in
    let parsed = c.in-Ok.ensures in
    ap number_of (sym same) ∙ natural_is c.as_bytes.result.now c.in-Ok.number (subst IsNumber (sym same) c.requires) parsed.0.0 parsed.0.1 parsed.1
