-- The number and the name of each cause of a refusal, and the copy that it names.
use Rattle.std.specs.Prelude.{ℕ, List, ◌++◌, codes, decimal, Option, Some, None}
use Rattle.pana_calls.specs.declared.cause.Cause.{Cause}
use Rattle.pana_calls.specs.declared.cause.Cause.TheVariants.{JournalFull, UnknownCopy, SameCopy, OtherFamily, PlaceTaken, FamilyFull, TooDeep, OutOfMemory, UnknownEntry, NotYours, Settled, UnknownFamily}

-- the number that stands for a cause in a line; 5 was a cause once, 14 is that of an entry that whoever keeps a hall couldn't write: neither is given away
abbrev pub code_of : Cause → ℕ
code_of JournalFull = 1
code_of (UnknownCopy copy) = 2
code_of SameCopy = 3
code_of OtherFamily = 4
code_of (PlaceTaken copy) = 6
code_of FamilyFull = 7
code_of TooDeep = 8
code_of OutOfMemory = 9
code_of UnknownEntry = 10
code_of NotYours = 11
code_of Settled = 12
code_of UnknownFamily = 13

-- the name of a cause
abbrev pub cause_name : Cause → List ℕ
cause_name JournalFull = codes "JournalFull"
cause_name (UnknownCopy copy) = codes "UnknownCopy"
cause_name SameCopy = codes "SameCopy"
cause_name OtherFamily = codes "OtherFamily"
cause_name (PlaceTaken copy) = codes "PlaceTaken"
cause_name FamilyFull = codes "FamilyFull"
cause_name TooDeep = codes "TooDeep"
cause_name OutOfMemory = codes "OutOfMemory"
cause_name UnknownEntry = codes "UnknownEntry"
cause_name NotYours = codes "NotYours"
cause_name Settled = codes "Settled"
cause_name UnknownFamily = codes "UnknownFamily"

-- the copy that a cause names, if it names one
abbrev pub cause_copy : Cause → Option ℕ
cause_copy (UnknownCopy copy) = Some copy
cause_copy (PlaceTaken copy) = Some copy
cause_copy _ = None

-- a name, and behind it the copy, where there is one
abbrev pub shown_with : List ℕ → Option ℕ → List ℕ
shown_with name None = name
shown_with name (Some copy) = name ++ codes " " ++ decimal copy

-- how a cause is printed
abbrev pub shown_cause : Cause → List ℕ
shown_cause cause = shown_with (cause_name cause) (cause_copy cause)
