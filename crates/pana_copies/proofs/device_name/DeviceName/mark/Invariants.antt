use Rattle.std.proofs.Common.{◌≡◌, fold, take, ◌+◌, ◌*◌, ◌%◌}
use Rattle.pana_copies.proofs.device_name.DeviceName.mark.Given as goal

abbrev pub invariant-loop-byte : goal.invariant-loop-byte
invariant-loop-byte l = l.mark ≡ fold (λ mark byte. (mark * 31 % 256 + byte) % 256) 0 (take l.byte-index l.bytes)
