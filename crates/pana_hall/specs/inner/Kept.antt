-- What a hall keeps of its journal.
use Rattle.std.specs.Prelude.{◌≡◌, ℕ, ◌+◌, ◌<◌, ◌≤◌, List, [], ◌∷◌, length, map, slice_get, Option, Some, option_map, option_and_then, None, false, reverse}
use Rattle.pana_copies.specs.declared.place.Place.{Place}
use Rattle.pana_copies.specs.Spots.{Table, kept}
use Rattle.pana_journal.specs.declared.report.Report.{Report}
use Rattle.pana_journal.specs.declared.entry.Entry.{Entry}
use Rattle.pana_journal.specs.Entries.{entry_at}
use Rattle.pana_journal.specs.Reports.{subject}
use Rattle.pana_hall.specs.Family.{families, is_register}
use Rattle.pana_hall.specs.Refusal.{report_refusal, displaced}
use Rattle.pana_hall.specs.Living.{Copy, copy_in, copies_of, living}
use Rattle.pana_hall.specs.Accepted.{IsAccepted}
use Rattle.pana_hall.specs.Queries.{begun}
use Rattle.pana_hall.specs.laws.Tables.{layer}
use Rattle.pana_hall.specs.laws.Layers.{family_of_next}
use Rattle.pana_hall.specs.Pending.{pending}
use Rattle.pana_hall.specs.StampRows.{rows_of}
use Rattle.pana_hall.specs.inner.Undo.{Earlier, KeptRows, Undone, earlier, kept_rows, undone}
use Rattle.pana_hall.specs.inner.Contents.{AreContents, first_said, said_in, second_said}
use Rattle.pana_hall.specs.inner.Families.{position_at}
use Rattle.pana_hall.specs.inner.Spots.{spot_in}

-- the next entry of a journal, with this report
abbrev pub next_entry : List Entry → List ℕ → Report → Entry
next_entry journal by report = record { number = length journal + 1; by = by; report = report }

-- where the copy is among these that an entry moves or removes, if it does
abbrev pub place_before : Option Entry → List Copy → Option Place
place_before entry copies = option_and_then (λ e. option_and_then (λ c. option_map (λ copy. copy.place) (copy_in copies c)) (displaced e.report)) entry

-- the entries that say what the copies hold among these of whose content entry n's report says something
abbrev pub said_before : Option ℕ → List Copy → Option ℕ
said_before number copies = option_and_then (said_in copies) number

-- what is before an entry, if there is one, among these copies
abbrev pub before_of : Option Entry → List Copy → Earlier
before_of entry copies = earlier
    (place_before entry copies)
    (said_before (option_and_then (λ e. first_said e.number e.report) entry) copies)
    (said_before (option_and_then (λ e. second_said e.report) entry) copies)

-- pending entry n, before which the family has these entries
abbrev pub undone_of : List Entry → ℕ → List Entry → Undone
undone_of journal n entries = undone n (rows_of entries) (before_of (entry_at journal n) (copies_of entries))

-- something of each of these pending entries, the latest first, and of the layer that goes with it
abbrev pub of_each : {X : Type 0} → (ℕ → List Entry → X) → (ℕ → List Entry) → List ℕ → List X
of_each make layers [] = []
of_each make layers (n ∷ numbers) = make n (layers 0) ∷ of_each make (λ k. layers (k + 1)) numbers

-- something of each pending entry of a family, the latest first, and of the family's entries before it
abbrev pub of_pending : {X : Type 0} → (ℕ → List Entry → X) → ℕ → List Entry → List X
of_pending make family journal = of_each make (λ k. layer 8 (k + 1) family journal) (reverse (pending 8 family journal))

-- a family of a journal: its rows are those that its entries make, now and before each pending entry
abbrev pub family_of : List Entry → ℕ → KeptRows
family_of journal family = kept_rows family (rows_of (layer 8 0 family journal)) (of_pending (undone_of journal) family journal)

-- the families that have begun, in order
abbrev pub families_of : List Entry → List KeptRows
families_of journal = map (family_of journal) (begun journal)

-- the table has the living copies, each where it is kept
abbrev pub AreSpots : List Entry → Table → Type 0
AreSpots journal copies = (number : ℕ) → kept copies number ≡ spot_in (living journal) number

-- each entry of the journal has the position of its family among those that have begun
pub record ArePlaced (journal : List Entry) (positions : List ℕ) : Type 0 where
  pub count : length positions ≡ length journal
  pub at : (number : ℕ) → 0 < number → number ≤ length journal → (p : ℕ) × (position_at positions number ≡ Some p) × (slice_get (begun journal) p ≡ Some (families journal number))

-- the journal has entry n
abbrev pub IsWithin : List Entry → ℕ → Type 0
IsWithin journal n = (0 < n) × (n ≤ length journal)

-- what a hall keeps of its journal: the families that have begun, the family of each entry, and the living copies' places and contents
pub record IsKept (journal : List Entry) (list : List KeptRows) (positions : List ℕ) (copies : Table) (said : List ℕ) : Type 0 where
  pub accepted : IsAccepted 8 journal
  pub listed : list ≡ families_of journal
  pub placed : ArePlaced journal positions
  pub spots : AreSpots journal copies
  pub contents : AreContents journal said

-- the position of the family of a copy or an entry; without one, the next position
abbrev pub position_of_subject : List KeptRows → List ℕ → Option ℕ → Option ℕ
position_of_subject list positions None = Some (length list)
position_of_subject list positions (Some number) = position_at positions number

-- the position for the family of a report
abbrev pub position_for : List KeptRows → List ℕ → Report → Option ℕ
position_for list positions report = position_of_subject list positions (subject report)

-- nothing stands against the device's report, which is not a Register, and these are its family and the table of copies
pub record IsReady (journal : List Entry) (by : List ℕ) (report : Report) (it : KeptRows) (copies : Table) : Type 0 where
  pub accepted : IsAccepted 8 journal
  pub free : report_refusal 8 journal (living journal) by report ≡ None
  pub later : is_register report ≡ false
  pub kept : it ≡ family_of journal (family_of_next journal (next_entry journal by report))
  pub spots : AreSpots journal copies

-- nothing stands against the device's report, and its family is at this position; a Register's will be at the next
pub record IsReadyAt (journal : List Entry) (by : List ℕ) (report : Report) (list : List KeptRows) (position : ℕ) (copies : Table) : Type 0 where
  pub accepted : IsAccepted 8 journal
  pub free : report_refusal 8 journal (living journal) by report ≡ None
  pub listed : list ≡ families_of journal
  pub spots : AreSpots journal copies
  pub at : is_register report ≡ false → slice_get (begun journal) position ≡ Some (family_of_next journal (next_entry journal by report))
