-- Devices in memory.
use Rattle.std.specs.Prelude.{Bool, List, ℕ}
use Rattle.pana_log.specs.declared.memory.MemoryDevice.{MemoryDevice}
use Rattle.pana_log.specs.Operations.{file_of, MayLeave}

-- the bytes that a read returns
abbrev pub bytes_of : MemoryDevice → List ℕ
bytes_of device = file_of device.first.items device.operations.items

-- a crash may leave these bytes
abbrev pub LeavesAfterCrash : MemoryDevice → List ℕ → Type 0
LeavesAfterCrash device bytes = MayLeave device.first.items device.operations.items bytes

-- no sync has failed
abbrev pub is_usable_of : MemoryDevice → Bool
is_usable_of device = device.is_usable
