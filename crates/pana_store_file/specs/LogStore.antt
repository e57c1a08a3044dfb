-- What calls do to a store of a log of which nothing is known.
use Rattle.std.specs.Prelude.{◌≡◌, ℕ, Bool, false, List}
use Rattle.pana_journal.specs.declared.entry.Entry.{Entry}
use Rattle.pana_calls.specs.declared.answer.Answer.{Answer}
use Rattle.pana_calls.specs.declared.call.Call.{Call}
use Rattle.pana_shared_store.specs.Store.{Becomes, GoesOn}

-- what contracts see of it: the entries that it has followed, and whether something that is no entry was met in the log
pub record LogView : Type 0 where
  pub entries : List Entry
  pub broken : Bool

-- A call that is answered, by a store that isn't broken: it becomes on a journal that goes on from the old one what it becomes by a
-- hall alone.
pub record Answers (old : LogView) (by : List ℕ) (call : Call) (answer : Answer) (new : LogView) : Type 0 where
  pub at : List Entry
  pub goes_on : GoesOn old.entries at
  pub becomes : Becomes at by call answer new.entries
  pub whole : old.broken ≡ false
  pub same : new.broken ≡ false
