-- What a session's writer was given, and what the file keeps: the clock of the notes is the device's.
use Rattle.std.specs.Prelude.{◌≡◌, ◌⊎◌, ◌<◌, ◌^◌, ℕ, List, [], ◌∷◌, ◌++◌, codes}
use Rattle.std.specs.Fmt.{decimal}
use Rattle.pana_journal.specs.declared.report_kind.ReportKind.{ReportKind}
use Rattle.pana_calls.specs.declared.reply.Reply.{Reply}
use Rattle.pana_calls.specs.declared.reply.Reply.TheVariants.{Done, Did}
use Rattle.pana_wire.specs.declared.tap.Tap.{Tap}
use Rattle.pana_wire.specs.Lines.{unended}
use Rattle.pana_wire.specs.Report.{kind_word}
use Rattle.pana_wire.specs.Tap.{Note, noted, bytes_in}
use Rattle.pana_wire.specs.Word.{word_name}
use Rattle.pana_store.specs.Entries.{LoadsFirst}
use Rattle.pana_store.specs.Store.{KeptView}

-- the reply says that entries were made, and that the last of them has this number
abbrev pub IsDone : ℕ → Reply → Type 0
IsDone n (Done entry) = entry ≡ n
IsDone n (Did kind entry) = entry ≡ n
IsDone n _ = ⊥

-- the line that answers a report whose entry has this number
abbrev pub done_line : ℕ → List ℕ
done_line n = codes "{\"done\":" ++ decimal n ++ codes "}"

-- the line that answers a sighting of which this was done, and whose last entry has this number
abbrev pub did_line : ReportKind → ℕ → List ℕ
did_line kind n = codes "{\"did\":\"" ++ (word_name (kind_word kind) ++ (codes "\",\"done\":" ++ decimal n ++ codes "}"))

-- the line acknowledges the entry with this number, and where the call made two, the one before it with it
abbrev pub AcknowledgesEntry : ℕ → List ℕ → Type 0
AcknowledgesEntry n line = (line ≡ done_line n) ⊎ ((kind : ReportKind) × (line ≡ did_line kind n))

-- Each entry that was acknowledged is kept. In what was noted since, wherever a newline ends a line that acknowledges entry
-- n: each crash from the moment of that newline on leaves a file that loads to the first entries of now, n of them at least.
abbrev pub Acknowledges : {D W : Type 0} → (D → ℕ → List ℕ → Type 0) → Tap W → Tap W → KeptView D → Type 0
Acknowledges left_since writer_old writer_new new =
    (before after : List Note) (n t : ℕ) → n < 2 ^ 64
    → noted writer_new ≡ noted writer_old ++ (before ++ record { byte = 10; moment = t } ∷ after)
    → AcknowledgesEntry n (unended [] (bytes_in before))
    → (c : List ℕ) → left_since new.log.device t c → LoadsFirst n new.entries c
