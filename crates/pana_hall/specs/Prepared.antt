-- A call whose entries are to be the next of a journal: it is checked, and has all memory that it takes.
use Rattle.std.specs.Prelude.{◌≡◌, ℕ, List, ◌∷◌, ◌++◌, Option, None}
use Rattle.std.specs.Option.{option_to_list}
use Rattle.pana_journal.specs.declared.entry.Entry.{Entry}
use Rattle.pana_calls.specs.declared.call.Call.{Call}
use Rattle.pana_calls.specs.declared.reply.Reply.{Reply}
use Rattle.pana_hall.specs.Permit.{Permits, journal_after}
use Rattle.pana_hall.specs.Refusal.{refusal}

-- a journal, the entry that is to be its next, the one behind it, if there are two, and the reply then
pub record PreparedView : Type 0 where
  pub journal : List Entry
  pub entry : Entry
  pub second : Option Entry
  pub reply : Reply

-- the entries that it has
abbrev pub entries_of : PreparedView → List Entry
entries_of next = next.entry ∷ option_to_list next.second

-- these are what the device's call makes, against which nothing stands
pub record Prepares (old : List Entry) (by : List ℕ) (call : Call) (next : PreparedView) : Type 0 where
  pub journal : next.journal ≡ old
  pub permitted : Permits old by call next.reply
  pub entries : journal_after old by call next.reply ≡ old ++ entries_of next
  pub free : refusal old by call ≡ None

-- the reply that a device's call gets without an entry
pub record AnswersAt (journal : List Entry) (by : List ℕ) (call : Call) (reply : Reply) : Type 0 where
  pub permitted : Permits journal by call reply
  pub same : journal_after journal by call reply ≡ journal
