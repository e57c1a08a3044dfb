-- The answer to a question for stamps.
use Rattle.std.specs.Prelude.{◌≡◌, ℕ, List, map}
use Rattle.pana_journal.specs.declared.entry.Entry.{Entry}
use Rattle.pana_calls.specs.declared.copy_stamp.CopyStamp.{CopyStamp}
use Rattle.pana_family.specs.Stamps.{AreStamps, stamps_in, text_of}
use Rattle.pana_hall.specs.Living.{living}
use Rattle.pana_hall.specs.StampRows.{stamp_rows}
use Rattle.pana_hall.specs.Board.{sets_of}

-- the stamps of a family's living copies, by rising number: their texts are those of the rows that its entries make. So each owns
-- a point, no point has two owners, and comparing two of them gives the relation of the copies' sets
unfoldable pub AreStampsOf : ℕ → List Entry → List CopyStamp → Type 0
AreStampsOf family journal stamps =
    (map text_of stamps ≡ stamps_in (stamp_rows family journal))
    × AreStamps (map text_of stamps) (sets_of family (living journal))
