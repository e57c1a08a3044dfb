-- A device's name is kept with zeros after it.
use Rattle.std.proofs.Common.{◌≡◌, ℕ, true, List, sym, ap, subst}
use Rattle.pana_copies.proofs.DeviceText.{before_zeros-copied}
use Rattle.pana_copies.specs.Names.{is_device}
use Rattle.pana_copies.specs.inner.DeviceBytes.{AreDeviceBytes, with_zeros}

-- a name that was copied over the first of 32 zeros
pub name_copied : (text : List ℕ) → is_device text ≡ true → AreDeviceBytes (with_zeros text)
name_copied text name =
    let copied = before_zeros-copied text 32 name in
    record { name = subst (λ t. is_device t ≡ true) (sym copied) name; padded = ap with_zeros (sym copied) }
