use Rattle.std.proofs.Common.{◌∙◌, sym, subst}
use Rattle.std.specs.Map.{keys_of}
use Rattle.std.proofs.lemmas.Map.Entries.{length-keys_of}
use Rattle.pana_copies.specs.Spots.{CountsDevices, kept}
use Rattle.pana_copies.proofs.Devices.{devices_are}
use Rattle.pana_copies.proofs.copy_table.CopyTable.device_count.Goals as goal

pub returns : goal.returns
unfolding kept
returns c =
    let inside = c.self.inside in
    let devices = keys_of inside.devices.entries in
    subst (λ t. CountsDevices t c.len.result) c.self.view_is
    (devices, record { once = c.len.ensures.unique; those = devices_are inside.families.entries inside.places.keys inside.devices.entries c.self.invariant.0 }, c.len.ensures.len ∙ sym (length-keys_of inside.devices.entries))
