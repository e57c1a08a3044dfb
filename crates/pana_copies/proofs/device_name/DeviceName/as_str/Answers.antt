use Rattle.std.proofs.Common.{rules}
use Rattle.pana_copies.proofs.DeviceText.{IsUtf8-from_is_device}
use Rattle.pana_copies.proofs.device_name.DeviceName.as_str.Goals as goal

pub from_utf8_unchecked-requires : goal.from_utf8_unchecked-requires
from_utf8_unchecked-requires c = search (rules, IsUtf8-from_is_device)
