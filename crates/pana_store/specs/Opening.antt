-- What a file is opened to, and why it isn't.
use Rattle.std.specs.Prelude.{◌≡◌, ◌≢◌, ◌⊎◌, ℕ, Bool, true, false, IsTrue, List, [], ◌∷◌}
use Rattle.pana_journal.specs.declared.entry.Entry.{Entry}
use Rattle.pana_hall.specs.Load.{IsLoadFault}
use Rattle.pana_wire.specs.DumpLines.{Say, HasFaultAt}
use Rattle.pana_log.specs.declared.device_fault.DeviceFault.TheVariants as devices
use Rattle.pana_log.specs.declared.file_kind.FileKind.TheVariants as kinds
use Rattle.pana_log.specs.Lines.{recovered, header, kind_of}
use Rattle.pana_seal.specs.Seal.{IsDamagedAt}
use Rattle.pana_store.specs.declared.open_fault.OpenFault.{OpenFault}
use Rattle.pana_store.specs.declared.open_fault.OpenFault.TheVariants as faults

-- why the lines have no hall: one of them is damaged, or has a fault, or one of their entries stops, or memory runs out
abbrev pub HaveNoHall : List (List ℕ) → OpenFault → Type 0
HaveNoHall lines (faults.Damaged number) = IsDamagedAt lines number
HaveNoHall lines (faults.Line number fault) = HasFaultAt lines number fault
HaveNoHall lines (faults.Entry fault) = (entries : List Entry) × Say lines entries × IsLoadFault entries fault
HaveNoHall lines faults.OutOfMemory = Unit {0}
HaveNoHall lines _ = ⊥

-- why a file isn't opened: it is none of a journal, or its last line is cut, or its lines have no hall, or its device has
-- failed
abbrev pub IsOpenFault : Bool → List ℕ → OpenFault → Type 0
IsOpenFault has_failed file faults.NoJournal = kind_of file ≡ kinds.Foreign
IsOpenFault has_failed file faults.Unended = kind_of file ≡ kinds.Unended
IsOpenFault has_failed file (faults.Device fault) = fault ≢ devices.OutOfMemory → IsTrue has_failed
IsOpenFault has_failed file fault = HaveNoHall (recovered file) fault

-- the lines of a file once it is opened: one without a line gets the first one of a new journal
abbrev pub with_header : List (List ℕ) → List (List ℕ)
with_header [] = header ∷ []
with_header (line ∷ lines) = line ∷ lines

-- the file stands for the same lines, or, where there was none, for the first one of a new journal
abbrev pub IsSameOrBegun : List ℕ → List ℕ → Type 0
IsSameOrBegun old new = (recovered new ≡ recovered old) ⊎ ((recovered old ≡ []) × (recovered new ≡ header ∷ []))

-- whether the device has failed
abbrev pub is_of_device : OpenFault → Bool
is_of_device (faults.Device fault) = true
is_of_device _ = false
