-- Rows as a function from numbers, and what takes them from one state to another and back.
use Rattle.std.specs.Prelude.{◌==◌, ◌+◌, ◌≤◌, ℕ, Bool, true, false, count_by, map, Option, Some, None, List, [], ◌∷◌, length, reverse, refl, if◌then◌else◌}
use Rattle.std.specs.Option.{option_map}
use Rattle.std.specs.Coded.{Coded, code_by, coded×, coded_ℕ, coded_list}
use Rattle.pana_event.specs.Event.{Event}
use Rattle.pana_rel.specs.Pairs.{Table}
use Rattle.pana_family.specs.declared.row.StampRow.{StampRow}
use Rattle.pana_family.specs.contracts.row.StampRow as stamp_row
use Rattle.pana_family.specs.Rows.{renewed, dropped, put_back, copy_rows}
use Rattle.pana_family.specs.declared.change.Exchange.{Exchange}
use Rattle.pana_family.specs.declared.change.Exchange.TheVariants.{Put, Take}
use Rattle.pana_family.specs.declared.change.Change.{Change}
use Rattle.pana_family.specs.declared.change.Change.TheVariants.{Event as Renew, Touch, Rows}

-- the number at which rows are exchanged
abbrev pub number_of : Exchange → ℕ
number_of (Put r) = r.copy
number_of (Take n) = n

-- the numbers at which a change gives rows another stamp or holder
abbrev pub numbers_in : Change → List ℕ
numbers_in (Renew copy event touch) = copy ∷ []
numbers_in (Touch copy touch) = []
numbers_in (Rows news) = map number_of news.value.items

-- the row that stands there afterwards
abbrev pub row_of : Exchange → Option StampRow
row_of (Put r) = Some r
row_of (Take n) = None

-- the exchange that leaves this row, or none, at a number
abbrev pub at_number : ℕ → Option StampRow → Exchange
at_number n None = Take n
at_number n (Some r) = Put r

-- the rows after an exchange
abbrev pub placed : Exchange → (ℕ → Option StampRow) → ℕ → Option StampRow
placed x rows n = if number_of x == n then row_of x else rows n

-- after one exchange and another
abbrev pub placed_all : List Exchange → (ℕ → Option StampRow) → ℕ → Option StampRow
placed_all [] rows = rows
placed_all (x ∷ news) rows = placed_all news (placed x rows)

-- for each exchange the one that takes it back
abbrev pub formers : List Exchange → (ℕ → Option StampRow) → List Exchange
formers [] rows = []
formers (x ∷ news) rows = at_number (number_of x) (rows (number_of x)) ∷ formers news (placed x rows)

-- the rows, with that of a number changed by f
abbrev pub mapped : ℕ → (StampRow → StampRow) → (ℕ → Option StampRow) → ℕ → Option StampRow
mapped copy f rows n = if copy == n then option_map f (rows n) else rows n

-- the row with another event and touch
abbrev pub with_event : Event → ℕ → StampRow → StampRow
with_event event touch r = record { copy = r.copy; holder = r.holder; stamp = record { id = r.stamp.id; event = event }; touch = touch }

-- the row with another touch
abbrev pub with_touch : ℕ → StampRow → StampRow
with_touch touch r = record { copy = r.copy; holder = r.holder; stamp = r.stamp; touch = touch }

-- the rows after a change
abbrev pub changed : Change → (ℕ → Option StampRow) → ℕ → Option StampRow
changed (Renew copy event touch) rows = mapped copy (with_event event touch) rows
changed (Touch copy touch) rows = mapped copy (with_touch touch) rows
changed (Rows news) rows = placed_all news.value.items rows

-- the change that gives a row its event and touch back
abbrev pub event_back : Change → ℕ → Option StampRow → Change
event_back same copy None = same
event_back same copy (Some r) = Renew copy r.stamp.event r.touch

-- the change that gives a row its touch back
abbrev pub touch_back : Change → ℕ → Option StampRow → Change
touch_back same copy None = same
touch_back same copy (Some r) = Touch copy r.touch

-- the change that takes a change of these rows back, its rows in the same box
abbrev pub inverse : Change → (ℕ → Option StampRow) → Change
inverse (Renew copy event touch) rows = event_back (Renew copy event touch) copy (rows copy)
inverse (Touch copy touch) rows = touch_back (Touch copy touch) copy (rows copy)
inverse (Rows news) rows = Rows (record { ptr = news.ptr; alloc = news.alloc; value = record { items = reverse (formers news.value.items rows); capacity = news.value.capacity } })

-- whether a row is put
abbrev pub is_put : Exchange → Bool
is_put (Put r) = true
is_put (Take n) = false

-- how many rows are put
abbrev pub puts : List Exchange → ℕ
puts news = count_by is_put news

-- how many rows a change may add
abbrev pub room_of : Change → ℕ
room_of (Renew copy event touch) = 0
room_of (Touch copy touch) = 0
room_of (Rows news) = puts news.value.items

-- a list of rows after an exchange
abbrev pub exchanged : Exchange → List StampRow → List StampRow
exchanged (Put x) rows = put_back x rows
exchanged (Take n) rows = dropped n rows

-- after one exchange and another
abbrev pub exchanged_all : List Exchange → List StampRow → List StampRow
exchanged_all [] rows = rows
exchanged_all (x ∷ news) rows = exchanged_all news (exchanged x rows)

-- a list of rows after a change
abbrev pub after : Change → List StampRow → List StampRow
after (Renew copy event touch) rows = renewed copy (with_event event touch) rows
after (Touch copy touch) rows = renewed copy (with_touch touch) rows
after (Rows news) rows = exchanged_all news.value.items rows

-- how many rows, and how many copies, take no memory
pub record Room : Type 0 where
  pub rows : ℕ
  pub copies : ℕ

-- rows, and the room that there is
pub record RowList : Type 0 where
  pub rows : List StampRow
  pub room : Room

-- these rows in a vector of this capacity, beside this table of their copies
abbrev pub row_list : List StampRow → ℕ → Table → RowList
row_list rows capacity pairs = record { rows = rows; room = record { rows = capacity; copies = length pairs.copies + pairs.room } }

-- how these are kept as numbers
abbrev pub row_list_code : Coded RowList
row_list_code =
    code_by (List StampRow × (ℕ × ℕ)) (coded× (coded_list stamp_row.the_row.coded) (coded× coded_ℕ coded_ℕ)) (λ l. (l.rows, (l.room.rows, l.room.copies)))
    (λ p. record { rows = p.0; room = record { rows = p.1.0; copies = p.1.1 } }) (λ _. refl)

-- there is room for what the change adds
abbrev pub Fits : Change → List StampRow → Room → Type 0
Fits c rows room = (length rows + room_of c ≤ room.rows) × (length (copy_rows (after c rows)) ≤ room.copies)

-- there is no less room
abbrev pub IsRoomier : Room → Room → Type 0
IsRoomier old new = (old.rows ≤ new.rows) × (old.copies ≤ new.copies)
