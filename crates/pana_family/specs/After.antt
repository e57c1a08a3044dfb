-- The rows after a report as a function of those before, stamps and all: what becomes of each row, and the row that comes.
use Rattle.std.specs.Prelude.{ℕ, ◌==◌, ◌&&◌, ◌||◌, Bool, false, Option, None, Some, List, [], ◌∷◌, ◌++◌, filter_map, if◌then◌else◌}
use Rattle.pana_id.specs.Id.{Id, parts, sum_of}
use Rattle.pana_event.specs.Event.{Event, leaf, fork}
use Rattle.pana_event.specs.Join.{joined}
use Rattle.pana_event.specs.Order.{is_leq}
use Rattle.pana_stamp.specs.Fill.{fill}
use Rattle.pana_stamp.specs.Grow.{grow}
use Rattle.pana_stamp.specs.declared.stamp.Stamp.{Stamp}
use Rattle.pana_family.specs.declared.row.StampRow.{StampRow}
use Rattle.pana_family.specs.declared.report.FamilyReport.{FamilyReport}
use Rattle.pana_family.specs.declared.report.FamilyReport.TheVariants.{Duplicate, Edit, Reconcile, Merge, Remove, Touch}
use Rattle.pana_family.specs.Holders.{is_held, passed}
use Rattle.pana_family.specs.Rows.{row, row_in, stamp, with_ids}

-- whether two events are one tree
abbrev pub same_event : Event → Event → Bool
same_event (leaf m) (leaf n) = m == n
same_event (leaf m) (fork n l r) = false
same_event (fork m c d) (leaf n) = false
same_event (fork m c d) (fork n l r) = m == n && (same_event c l && same_event d r)

-- the event after an update: what filling gives where that changes it, and else the event grown
abbrev pub updated : Id → Event → Event
updated i e = if same_event (fill i e) e then grow i e else fill i e

-- the stamp after an update of all that it owns
abbrev pub updated_stamp : Stamp → Stamp
updated_stamp s = stamp s.id (updated s.id s.event)

-- the parts of a stamp, which both know what it does
abbrev pub first_part : Stamp → Stamp
first_part s = stamp (parts s.id).0 s.event

abbrev pub second_part : Stamp → Stamp
second_part s = stamp (parts s.id).1 s.event

-- what two stamps own and know together
abbrev pub joined_stamp : Stamp → Stamp → Stamp
joined_stamp s t = stamp (sum_of s.id t.id) (joined s.event t.event)

-- the row with another stamp and touch
abbrev pub restamped : Stamp → ℕ → StampRow → StampRow
restamped s touch r = record { copy = r.copy; holder = r.holder; stamp = s; touch = touch }

-- whether the row is that of the copy that is removed, or of a parcel that it holds
abbrev pub is_bound : Option ℕ → StampRow → Bool
is_bound None r = false
is_bound (Some copy) r = r.copy == copy || is_held copy r.holder

-- whether the row's id becomes a copy's that is settled and knows the event: it holds the row, or the removed copy did
abbrev pub ends : Option ℕ → ℕ → Event → StampRow → Bool
ends from copy event r = (is_bound from r || is_held copy r.holder) && is_leq r.stamp.event event

-- a copy's row once it has this stamp and is settled: it has the ids of the rows that end
abbrev pub settled : Option ℕ → List StampRow → Stamp → ℕ → StampRow → StampRow
settled from rows s touch r = restamped (stamp (with_ids (ends from r.copy s.event) s.id rows) s.event) touch r

-- entry n: two copies have the parts of a stamp, and are settled
abbrev pub shared : ℕ → ℕ → ℕ → Stamp → Stamp → List StampRow → StampRow → Option StampRow
shared n a b first second rows r =
    if r.copy == a then Some (settled None rows first n r)
    else (if r.copy == b then Some (settled None rows second n r)
    else (if ends None a first.event r || ends None b second.event r then None else Some r))

-- a copy goes, and the parcels that it held
abbrev pub lost : ℕ → StampRow → Option StampRow
lost copy r = if is_bound (Some copy) r then None else Some r

-- a copy goes; its heir, which knows this event, holds what the copy held, and is settled
abbrev pub bequeathed : ℕ → ℕ → Event → List StampRow → StampRow → Option StampRow
bequeathed copy heir event rows r =
    if r.copy == heir then Some (settled (Some copy) rows r.stamp r.touch r)
    else (if r.copy == copy || ends (Some copy) heir event r then None
    else Some (record { copy = r.copy; holder = passed copy heir r.holder; stamp = r.stamp; touch = r.touch }))

-- parcel n, with a removed copy's stamp, which the heir holds
abbrev pub parcel_row : ℕ → ℕ → Stamp → StampRow
parcel_row n heir s = record { copy = n; holder = Some heir; stamp = s; touch = n }

-- what becomes of a row with report n
abbrev pub made : ℕ → FamilyReport → List StampRow → StampRow → Option StampRow
made n (Duplicate source) rows r = Some (if r.copy == source then restamped (first_part r.stamp) r.touch r else r)
made n (Edit copy) rows r = Some (if r.copy == copy then restamped (updated_stamp r.stamp) n r else r)
made n (Reconcile a b) rows r = let whole = joined_stamp (row_in rows a).stamp (row_in rows b).stamp in shared n a b (first_part whole) (second_part whole) rows r
made n (Merge a b) rows r = let whole = updated_stamp (joined_stamp (row_in rows a).stamp (row_in rows b).stamp) in shared n a b (first_part whole) (second_part whole) rows r
made n (Remove copy None) rows r = lost copy r
made n (Remove copy (Some heir)) rows r = bequeathed copy heir (row_in rows heir).stamp.event rows r
made n (Touch copy) rows r = Some (if r.copy == copy then restamped r.stamp n r else r)

-- the row that comes with report n, if one does: a new copy's, or that of a parcel which its heir doesn't know
abbrev pub comes : ℕ → FamilyReport → List StampRow → List StampRow
comes n (Duplicate source) rows = row n (second_part (row_in rows source).stamp) n ∷ []
comes n (Remove copy (Some heir)) rows =
    if is_leq (row_in rows copy).stamp.event (row_in rows heir).stamp.event then [] else parcel_row n heir (row_in rows copy).stamp ∷ []
comes n (Remove copy None) rows = []
comes n (Edit copy) rows = []
comes n (Reconcile a b) rows = []
comes n (Merge a b) rows = []
comes n (Touch copy) rows = []

-- the rows after report n
abbrev pub reported_rows : ℕ → FamilyReport → List StampRow → List StampRow
reported_rows n report rows = filter_map (made n report rows) rows ++ comes n report rows
