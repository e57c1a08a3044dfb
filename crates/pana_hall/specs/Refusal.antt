-- Why a call is refused: the first cause that holds, in the order that its kind of call has.
use Rattle.std.specs.Prelude.{ℕ, ◌+◌, not, ◌==◌, ◌&&◌, nat_le, List, [], ◌∷◌, ◌++◌, length, Option, Some, None, is_none, option_map, option_and_then, find, count_by}
use Rattle.std.specs.Bool.{then_some}
use Rattle.std.specs.Option.{option_or}
use Rattle.std.specs.Str.{bytes_eq}
use Rattle.pana_copies.specs.declared.place.Place.{Place}
use Rattle.pana_copies.specs.Places.{same_place}
use Rattle.pana_journal.specs.declared.report.Report.{Report}
use Rattle.pana_journal.specs.declared.report.Report.TheVariants.{Register, Duplicate, Edit, Reconcile, Merge, Relocate, Remove, Note, Confirm, Withdraw}
use Rattle.pana_journal.specs.declared.entry.Entry.{Entry}
use Rattle.pana_journal.specs.Entries.{entry_at}
use Rattle.pana_calls.specs.declared.call.Query.{Query}
use Rattle.pana_calls.specs.declared.call.Query.TheVariants as queries
use Rattle.pana_calls.specs.declared.call.Call.{Call}
use Rattle.pana_calls.specs.declared.call.Call.TheVariants as calls
use Rattle.pana_hall.specs.declared.decision.Decision.{Decision}
use Rattle.pana_hall.specs.declared.decision.Decision.TheVariants.{Known, One, Both}
use Rattle.pana_calls.specs.declared.cause.Cause.{Cause}
use Rattle.pana_calls.specs.declared.cause.Cause.TheVariants.{JournalFull, UnknownCopy, SameCopy, OtherFamily, PlaceTaken, FamilyFull, TooDeep, UnknownEntry, NotYours, Settled, UnknownFamily}
use Rattle.pana_family.specs.Updates.{has}
use Rattle.pana_family.specs.Rows.{divides}
use Rattle.pana_hall.specs.Family.{families, has_report, is_family}
use Rattle.pana_hall.specs.Effective.{effective, is_of_copies, left_out}
use Rattle.pana_hall.specs.Living.{Copy, number_of, copy_in, copies_of, living}
use Rattle.pana_hall.specs.Pending.{pending, is_last}
use Rattle.pana_hall.specs.StampRows.{stamp_rows}
use Rattle.pana_hall.specs.Board.{is_of}
use Rattle.pana_hall.specs.Finding.{decision}

-- the journal has all the entries that it takes
abbrev pub full : List Entry → Option Cause
full journal = then_some (nat_le 1000000 (length journal)) JournalFull

-- no living copy has the number
abbrev pub unknown : ℕ → List Copy → Option Cause
unknown number copies = then_some (is_none (copy_in copies number)) (UnknownCopy number)

-- the two numbers are one
abbrev pub same : ℕ → ℕ → Option Cause
same a b = then_some (a == b) SameCopy

-- the two copies are of two families
abbrev pub other_family : ℕ → ℕ → List Copy → Option Cause
other_family a b copies = option_and_then (λ copy. option_and_then (λ other. then_some (not (is_of copy.family other)) OtherFamily) (copy_in copies b)) (copy_in copies a)

-- what may stand against a report about two copies of one family
abbrev pub against_two : ℕ → ℕ → List Copy → List (Option Cause)
against_two a b copies = unknown a copies ∷ unknown b copies ∷ same a b ∷ other_family a b copies ∷ []

-- a living copy has the place
abbrev pub taken : Place → List Copy → Option Cause
taken place copies = option_map (λ copy. PlaceTaken (number_of copy)) (find (λ copy. same_place copy.place place) copies)

-- the family of the copy has all the living copies that it takes
abbrev pub family_full : ℕ → List Copy → Option Cause
family_full number copies = option_and_then (λ copy. then_some (nat_le 256 (count_by (is_of copy.family) copies)) FamilyFull) (copy_in copies number)

-- the id of the copy can't be divided
abbrev pub too_deep : ℕ → List Entry → List Copy → Option Cause
too_deep number journal copies = option_and_then (λ copy. then_some (not (divides (stamp_rows copy.family journal) number)) TooDeep) (copy_in copies number)

-- no entry that is a report of copies has the number
abbrev pub unknown_entry : ℕ → List Entry → Option Cause
unknown_entry number journal = then_some (not (has_report is_of_copies (entry_at journal number))) UnknownEntry

-- another device reported the entry
abbrev pub not_yours : List ℕ → ℕ → List Entry → Option Cause
not_yours by number journal = option_and_then (λ entry. then_some (not (bytes_eq entry.by by)) NotYours) (entry_at journal number)

-- the pending numbers of the entry's family
abbrev pub pending_with : ℕ → ℕ → List Entry → List ℕ
pending_with most number journal = pending most (families journal number) journal

-- the entry isn't pending
abbrev pub settled : ℕ → ℕ → List Entry → Option Cause
settled most number journal = then_some (not (has (pending_with most number journal) number)) Settled

-- the entry isn't the last that is pending
abbrev pub settled_or_followed : ℕ → ℕ → List Entry → Option Cause
settled_or_followed most number journal = then_some (not (is_last number (pending_with most number journal))) Settled

-- the copy that a report moves or removes
abbrev pub displaced : Report → Option ℕ
displaced (Relocate copy place) = Some copy
displaced (Remove copy heir) = Some copy
displaced _ = None

-- the copy that an entry has moved or removed, as it is where that entry is left out
abbrev pub brought_back : ℕ → List Entry → Option Copy
brought_back number journal = option_and_then (λ entry. option_and_then (copy_in (copies_of (left_out (number ∷ []) (effective journal)))) (displaced entry.report)) (entry_at journal number)

-- another living copy has the place of this one
abbrev pub taken_from : Copy → List Copy → Option Cause
taken_from copy copies = option_map (λ other. PlaceTaken (number_of other)) (find (λ other. not (number_of other == number_of copy) && same_place other.place copy.place) copies)

-- another living copy has the place that the entry's copy gets back
abbrev pub taken_since : ℕ → List Entry → Option Cause
taken_since number journal = option_and_then (λ copy. taken_from copy (living journal)) (brought_back number journal)

-- the number is that of no Register entry
abbrev pub unknown_family : ℕ → List Entry → Option Cause
unknown_family number journal = then_some (not (is_family journal number)) UnknownFamily

-- the first cause of the list that holds
abbrev pub first : List (Option Cause) → Option Cause
first [] = None
first (None ∷ causes) = first causes
first (Some cause ∷ causes) = Some cause

-- what may stand against a device's report, on a journal that isn't full and its living copies
abbrev pub against : ℕ → List Entry → List Copy → List ℕ → Report → List (Option Cause)
against most journal copies by (Register place sum) = taken place copies ∷ []
against most journal copies by (Duplicate copy place sum) = unknown copy copies ∷ taken place copies ∷ family_full copy copies ∷ too_deep copy journal copies ∷ []
against most journal copies by (Edit copy sum) = unknown copy copies ∷ []
against most journal copies by (Reconcile a b sum) = against_two a b copies
against most journal copies by (Merge a b sum) = against_two a b copies
against most journal copies by (Relocate copy place) = unknown copy copies ∷ taken place copies ∷ []
against most journal copies by (Remove copy None) = unknown copy copies ∷ []
against most journal copies by (Remove copy (Some heir)) = against_two copy heir copies
against most journal copies by (Note copy sum) = unknown copy copies ∷ []
against most journal copies by (Confirm entry) = unknown_entry entry journal ∷ not_yours by entry journal ∷ settled most entry journal ∷ []
against most journal copies by (Withdraw entry) = unknown_entry entry journal ∷ not_yours by entry journal ∷ settled_or_followed most entry journal ∷ taken_since entry journal ∷ []

-- why a device's report is refused
abbrev pub report_refusal : ℕ → List Entry → List Copy → List ℕ → Report → Option Cause
report_refusal most journal copies by report = first (full journal ∷ against most journal copies by report)

-- the journal with a device's report as its next entry
abbrev pub with_report : List Entry → List ℕ → Report → List Entry
with_report journal by report = journal ++ record { number = length journal + 1; by = by; report = report } ∷ []

-- why what is done of a device's sighting is refused: as the report that is made; where there are two, as the first, or else as
-- the second, which comes behind it
abbrev pub decision_refusal : ℕ → List Entry → List ℕ → Decision → Option Cause
decision_refusal most journal by (Known copy) = None
decision_refusal most journal by (One report) = report_refusal most journal (living journal) by report
decision_refusal most journal by (Both report second) =
    let next = with_report journal by report in
    option_or (report_refusal most journal (living journal) by report) (report_refusal most next (living next) by second)

-- why a query is refused
abbrev pub query_refusal : List Entry → List Copy → Query → Option Cause
query_refusal journal copies (queries.Board family) = first (unknown_family family journal ∷ [])
query_refusal journal copies (queries.Stamps family) = first (unknown_family family journal ∷ [])
query_refusal journal copies (queries.Pair a b) = first (unknown a copies ∷ unknown b copies ∷ other_family a b copies ∷ [])
query_refusal journal copies _ = None

-- why a call by the device is refused, memory aside; a family's last 8 entries are pending
unfoldable pub refusal : List Entry → List ℕ → Call → Option Cause
refusal journal by (calls.Report report) = report_refusal 8 journal (living journal) by report
refusal journal by (calls.Sighting sighting) = decision_refusal 8 journal by (decision (living journal) sighting)
refusal journal by (calls.Query query) = query_refusal journal (living journal) query
