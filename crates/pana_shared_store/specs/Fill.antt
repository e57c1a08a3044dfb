-- The entries of a journal, put into a log that has none.
use Rattle.std.specs.Prelude.{◌≡◌, ◌≢◌, ◌+◌, ◌≤◌, List, [], ◌++◌, length}
use Rattle.pana_journal.specs.declared.entry.Entry.{Entry}
use Rattle.pana_shared.specs.Log.{LogView, Reads, ours}
use Rattle.pana_shared_store.specs.declared.fill_fault.FillFault.{FillFault}
use Rattle.pana_shared_store.specs.declared.fill_fault.FillFault.TheVariants.{Full, NotEmpty, NotNext, Unread}
use Rattle.pana_shared_store.specs.Store.{AreFirst, entries_in}

-- the entries are the log's first ones, and all that the writer has put
pub record Fills (old : LogView) (entries : List Entry) (new : LogView) : Type 0 where
  pub writer : new.writer ≡ old.writer
  pub first : AreFirst entries new.records
  pub own : entries_in (ours new.writer new.records) ≡ entries

-- so are some first ones of the entries
pub record FillsPart (old : LogView) (part entries : List Entry) (new : LogView) : Type 0 where
  pub fills : Fills old part new
  pub left : List Entry
  pub split : entries ≡ part ++ left

-- why not all of them are: the log had some, and nothing was asked of it but to be read; or another record stands where this one was
-- to be put; or the log takes no more, or can't be read
abbrev pub FillsNot : FillFault → LogView → List Entry → LogView → Type 0
FillsNot NotEmpty old entries new = Reads old new × (new.records ≢ [])
FillsNot (NotNext number) old entries new = (part : List Entry) × FillsPart old part entries new × (number ≡ length part + 1) × (number ≤ length new.records)
FillsNot Full old entries new = (part : List Entry) × FillsPart old part entries new
FillsNot (Unread fault) old entries new = (part : List Entry) × FillsPart old part entries new
