use Rattle.std.proofs.Common.{◌≡◌, true, ◌++◌, length, drop, replicate, sym, ap, ◌∙◌, subst, rules}
use Rattle.pana_copies.specs.Names.{is_device, before_zeros}
use Rattle.pana_copies.specs.inner.DeviceBytes.{AreDeviceBytes}
use Rattle.pana_copies.proofs.DeviceBytes.{name_copied}
use Rattle.pana_copies.proofs.DeviceText.{before_zeros-copied}
use Rattle.pana_copies.proofs.device_name.DeviceName.new.Goals as goal

pub invariant_of-result : goal.invariant_of-result
invariant_of-result c =
    let name : is_device c.args.text.now ≡ true = search rules in
    let copied : c.copy_from_slice.new.self ≡ c.args.text.now = search rules in
    subst (λ t. AreDeviceBytes (t ++ drop (length c.args.text.now) (replicate 32 0))) (sym copied) (name_copied c.args.text.now name)

pub returns-clause-ok : goal.returns-clause-ok
returns-clause-ok c =
    let name : is_device c.args.text.now ≡ true = search rules in
    let copied : c.copy_from_slice.new.self ≡ c.args.text.now = search rules in
    ap (λ t. before_zeros (t ++ drop (length c.args.text.now) (replicate 32 0))) copied ∙ before_zeros-copied c.args.text.now 32 name
