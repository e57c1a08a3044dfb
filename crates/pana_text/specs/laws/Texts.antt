-- Laws of texts and faults.
use Rattle.std.specs.Prelude.{◌≡◌, List, ℕ}
use Rattle.pana_id.specs.Id.{Id}
use Rattle.pana_event.specs.Event.{Event}
use Rattle.pana_text.specs.declared.fault.TextFault.{TextFault}
use Rattle.pana_text.specs.Grammar.{Says}
use Rattle.pana_text.specs.Text.{IsTextOf}

-- what a fault says holds of each text for some fault, where that of OutOfMemory is that the text is a stamp's
abbrev pub EachHasAFault : Type 0
EachHasAFault = (text : List ℕ) → (fault : TextFault) × Says fault text

-- and for no two
abbrev pub FaultsExcludeEachOther : Type 0
FaultsExcludeEachOther = (text : List ℕ) (first second : TextFault) → Says first text → Says second text → first ≡ second

-- a text is that of one stamp at most
abbrev pub IsOfOneStamp : Type 0
IsOfOneStamp = (text : List ℕ) (i j : Id) (e f : Event) → IsTextOf i e text → IsTextOf j f text → (i ≡ j) × (e ≡ f)
