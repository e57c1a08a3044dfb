-- A journal, made once more at a session.
use Rattle.std.specs.Prelude.{◌≡◌, ◌≢◌, ℕ, List, [], ◌∷◌}
use Rattle.std.specs.List.{flat_map}
use Rattle.pana_journal.specs.declared.entry.Entry.{Entry}
use Rattle.pana_calls.specs.declared.call.Call.{Call}
use Rattle.pana_calls.specs.declared.call.Call.TheVariants as calls
use Rattle.pana_calls.specs.declared.call.Query.TheVariants as queries
use Rattle.pana_calls.specs.declared.reply.Reply.TheVariants.{Done, Journal}
use Rattle.pana_calls.specs.declared.answer.Answer.{Answer}
use Rattle.pana_calls.specs.declared.answer.Answer.TheVariants.{Given}

-- the question for the first entries
abbrev pub first_entries : Call
first_entries = calls.Query (queries.JournalFrom 1)

module _ {S : Type 0} (step : S → List ℕ → Call → Answer → S → Type 0) (settles : S → S → Type 0) where
  -- each entry is made by its device, in order, and is done with its own number
  abbrev pub Remakes : S → List Entry → S → Type 0
  Remakes old [] new = new ≡ old
  Remakes old (entry ∷ entries) new = (mid : S) × step old entry.by (calls.Report entry.report) (Given (Done entry.number)) mid × Remakes mid entries new

  -- entries are made so part by part, and the session settles behind each part
  abbrev pub KeepsParts : S → List (List Entry) → S → Type 0
  KeepsParts old [] new = new ≡ old
  KeepsParts old (part ∷ parts) new = (made : S) × (kept : S) × Remakes old part made × settles made kept × KeepsParts kept parts new

  -- entries are made so, and all of them are kept
  abbrev pub Keeps : S → List Entry → S → Type 0
  Keeps old entries new = (parts : List (List Entry)) × (flat_map (λ part. part) parts ≡ entries) × KeepsParts old parts new

  -- a device asks a session for its first entries, it has none, and the entries are made there and kept
  abbrev pub Transfers : List ℕ → List Entry → S → S → Type 0
  Transfers asker entries old new = (mid : S) × step old asker first_entries (Given (Journal [])) mid × Keeps mid entries new

  -- a device asks a session for its first entries, and it has some
  abbrev pub HasEntries : List ℕ → S → S → Type 0
  HasEntries asker old new = (found : List Entry) × (found ≢ []) × step old asker first_entries (Given (Journal found)) new
