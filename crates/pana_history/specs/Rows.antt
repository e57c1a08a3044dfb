-- The rows of a file's history: one that names each lane, and one for each entry.
use Rattle.std.specs.Prelude.{ℕ, ◌==◌, ◌&&◌, ◌||◌, not, Bool, false, List, [], ◌++◌, find, map, codes, decimal, Option, Some, None, is_some, option_and_then, if◌then◌else◌}
use Rattle.pana_copies.specs.declared.place.Place.{Place}
use Rattle.pana_journal.specs.declared.entry.Entry.{Entry}
use Rattle.pana_journal.specs.declared.report.Report.{Report}
use Rattle.pana_journal.specs.declared.report.Report.TheVariants.{Confirm, Duplicate, Edit, Merge, Note, Reconcile, Register, Relocate, Remove, Withdraw}
use Rattle.pana_journal.specs.Reports.{kind_name, kind_of}
use Rattle.pana_ask.specs.Place.{place_name}
use Rattle.pana_hall.specs.Living.{changes, living}
use Rattle.pana_history.specs.declared.lane.Lane.{Lane}
use Rattle.pana_history.specs.declared.mark.Mark.{Mark}
use Rattle.pana_history.specs.declared.mark.Sign.{Sign}
use Rattle.pana_history.specs.declared.mark.Sign.TheVariants.{Named, Plain, Struck, Touched}
use Rattle.pana_history.specs.Lanes.{copies_before, lanes_in, makes_copy, own_entries, withdrawal_of}
use Rattle.pana_history.specs.Row.{Drawn}

-- ---- marks

-- whether an entry makes or changes the copy with this number
abbrev pub touches : Entry → ℕ → Bool
touches entry number = (makes_copy entry.report && number == entry.number) || changes entry.report number

-- whether a copy lives behind entry n's report, where it did before it or not
abbrev pub lives_after : ℕ → Report → ℕ → Bool → Bool
lives_after n (Register place sum) copy lived = copy == n || lived
lives_after n (Duplicate source place sum) copy lived = copy == n || lived
lives_after n (Remove removed heir) copy lived = not (copy == removed) && lived
lives_after n _ copy lived = lived

abbrev pub sign_of : Bool → Entry → ℕ → Sign
sign_of is_withdrawn entry number = if touches entry number then (if is_withdrawn then Struck else Touched) else Plain

-- the mark of an entry in a lane; one that is withdrawn changes nothing
abbrev pub mark_of : Bool → Entry → Lane → Mark
mark_of is_withdrawn entry lane = record {
  lives_before = is_some lane.place;
  lives_after = if is_withdrawn then is_some lane.place else lives_after entry.number entry.report lane.copy (is_some lane.place);
  sign = sign_of is_withdrawn entry lane.copy;
}

-- ---- texts

-- where the copy with this number is, by its lane
abbrev pub place_at : List Lane → ℕ → Option Place
place_at lanes number = option_and_then (λ lane. lane.place) (find (λ lane. lane.copy == number) lanes)

-- a copy's place, or its number where it doesn't live
abbrev pub name_by : ℕ → Option Place → List ℕ
name_by number (Some place) = place_name place
name_by number None = codes "copy " ++ decimal number

abbrev pub copy_name : List Lane → ℕ → List ℕ
copy_name lanes number = name_by number (place_at lanes number)

-- what a report is about
abbrev pub subject_text : List Lane → Report → List ℕ
subject_text lanes (Register place sum) = place_name place
subject_text lanes (Duplicate source place sum) = copy_name lanes source ++ (codes " to " ++ place_name place)
subject_text lanes (Edit copy sum) = copy_name lanes copy
subject_text lanes (Reconcile a b sum) = copy_name lanes a ++ (codes " and " ++ copy_name lanes b)
subject_text lanes (Merge a b sum) = copy_name lanes a ++ (codes " and " ++ copy_name lanes b)
subject_text lanes (Relocate copy place) = copy_name lanes copy ++ (codes " to " ++ place_name place)
subject_text lanes (Remove copy None) = copy_name lanes copy
subject_text lanes (Remove copy (Some heir)) = copy_name lanes copy ++ (codes " with heir " ++ copy_name lanes heir)
subject_text lanes (Note copy sum) = copy_name lanes copy
subject_text lanes (Confirm entry) = decimal entry
subject_text lanes (Withdraw entry) = decimal entry

-- that an entry is withdrawn, and by which
abbrev pub ending : Option ℕ → List ℕ
ending None = []
ending (Some number) = codes " (withdrawn by " ++ (decimal number ++ codes ")")

-- the text of an entry
abbrev pub entry_text : List Lane → Option ℕ → Entry → List ℕ
entry_text lanes withdrawal entry =
    decimal entry.number ++ (codes " " ++ (kind_name (kind_of entry.report) ++ (codes " by " ++ (entry.by ++ (codes " of " ++ (subject_text lanes entry.report ++ ending withdrawal))))))

-- where a copy is now
abbrev pub now_text : Option Place → List ℕ
now_text (Some place) = place_name place
now_text None = codes "gone"

-- the text that names a lane
abbrev pub head_text : Lane → List ℕ
head_text lane = codes "copy " ++ (decimal lane.copy ++ (codes " " ++ now_text lane.place))

-- ---- rows

-- the row of an entry, by the lanes before it and the entry that withdraws it
abbrev pub entry_row : List Lane → Option ℕ → Entry → Drawn
entry_row lanes withdrawal entry = record { marks = map (mark_of (is_some withdrawal) entry) lanes; text = entry_text lanes withdrawal entry; is_struck = is_some withdrawal }

abbrev pub head_mark : ℕ → Lane → Mark
head_mark number lane = record { lives_before = false; lives_after = false; sign = if lane.copy == number then Named else Plain }

-- the row that names a lane
abbrev pub head_row : List Lane → Lane → Drawn
head_row lanes lane = record { marks = map (head_mark lane.copy) lanes; text = head_text lane; is_struck = false }

-- a row for each lane, which says where its copy is now
abbrev pub head_rows : List Lane → List Drawn
head_rows lanes = map (head_row lanes) lanes

-- a row for each entry of the file, by the copies that live before it
abbrev pub entry_rows : List Entry → List Entry → List Drawn
entry_rows journal own = map (λ entry. entry_row (lanes_in (copies_before journal entry.number) own) (withdrawal_of own entry.number) entry) own

-- the history of a file
abbrev pub rows_of : List Entry → ℕ → List Drawn
rows_of journal family = head_rows (lanes_in (living journal) (own_entries journal family)) ++ entry_rows journal (own_entries journal family)
