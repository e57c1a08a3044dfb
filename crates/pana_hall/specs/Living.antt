-- The copies that live after a journal, found from the whole of it. Nothing is checked here: a report of a copy
-- that doesn't live changes nothing.
use Rattle.std.specs.Prelude.{ℕ, Bool, false, ◌==◌, ◌||◌, List, [], ◌∷◌, ◌++◌, Option, Some, None, option_map, option_and_then, unwrap_or, find, fold, if◌then◌else◌}
use Rattle.std.specs.List.{filter_map}
use Rattle.std.specs.Option.{option_or, option_to_list}
use Rattle.std.specs.Str.{bytes_eq}
use Rattle.pana_copies.specs.declared.place.Place.{Place}
use Rattle.pana_journal.specs.declared.report.Report.{Report}
use Rattle.pana_journal.specs.declared.report.Report.TheVariants.{Register, Duplicate, Edit, Reconcile, Merge, Relocate, Remove, Note, Confirm, Withdraw}
use Rattle.pana_journal.specs.declared.entry.Entry.{Entry}
use Rattle.pana_event.specs.declared.rel.Rel.{Rel}
use Rattle.pana_event.specs.declared.rel.Rel.TheVariants.{Older, Newer}
use Rattle.pana_journal.specs.Reports.{given_sum}
use Rattle.pana_family.specs.Relation.{relation}
use Rattle.pana_family.specs.Updates.{union}
use Rattle.pana_family.specs.Table.{Known, known, knowing}
use Rattle.pana_hall.specs.Effective.{effective}

-- the sum of what a copy holds, and the entry that says so
pub record Content : Type 0 where
  pub entry : ℕ
  pub sum : List ℕ

-- a living copy: what is known of it, its family, its place, and what it holds, where that is known
pub record Copy : Type 0 where
  pub known : Known
  pub family : ℕ
  pub place : Place
  pub content : Option Content

-- a copy's number
abbrev pub number_of : Copy → ℕ
number_of copy = copy.known.copy

-- the copy with this number, if it lives
abbrev pub copy_in : List Copy → ℕ → Option Copy
copy_in copies number = find (λ copy. number_of copy == number) copies

-- what the copy with this number knows
abbrev pub known_to : List Copy → ℕ → List ℕ
known_to copies number = unwrap_or (option_map (λ copy. copy.known.set) (copy_in copies number)) []

-- what the copy with this number holds, where that is known
abbrev pub content_in : List Copy → ℕ → Option Content
content_in copies number = option_and_then (λ copy. copy.content) (copy_in copies number)

-- the sum of what a copy holds, where it is known
abbrev pub sum_of : Copy → Option (List ℕ)
sum_of copy = option_map (λ content. content.sum) copy.content

-- a new copy of a family, which knows this set and holds this
abbrev pub new_copy : ℕ → ℕ → List ℕ → Place → Option Content → Copy
new_copy n family set place content = record { known = known n set n; family = family; place = place; content = content }

-- the copy once entry n touched it: it knows this set, is at this place and holds this
abbrev pub touched : ℕ → List ℕ → Place → Option Content → Copy → Copy
touched n set place content copy = record { known = knowing set n copy.known; family = copy.family; place = place; content = content }

-- what entry n says with a sum
abbrev pub said : ℕ → List ℕ → Content
said n sum = record { entry = n; sum = sum }

-- the one where both are known and have one sum
abbrev pub shared : Option Content → Option Content → Option Content
shared (Some a) (Some b) = if bytes_eq a.sum b.sum then Some a else None
shared _ _ = None

-- what two copies hold that were reconciled, by how the first related to the second: the older one got what the other holds, and
-- copies of which none was older hold what both held
abbrev pub agreed : Rel → Option Content → Option Content → Option Content
agreed Older a b = b
agreed Newer a b = a
agreed _ a b = shared a b

-- what the copies that a report is about hold where it gives no sum
abbrev pub unsaid : Report → List Copy → Option Content
unsaid (Duplicate source place sum) copies = content_in copies source
unsaid (Reconcile a b sum) copies = agreed (relation (known_to copies a) (known_to copies b)) (content_in copies a) (content_in copies b)
unsaid _ copies = None

-- what the copies hold that entry n's report changes, or the one that comes with it: the sum that it gives, or else what follows
-- from what was held before
abbrev pub content_by : ℕ → Report → List Copy → Option Content
content_by n report copies = option_or (option_map (said n) (given_sum report)) (unsaid report copies)

-- whether a report changes or removes the copy with this number
abbrev pub changes : Report → ℕ → Bool
changes (Register place sum) number = false
changes (Duplicate source place sum) number = false
changes (Edit copy sum) number = number == copy
changes (Reconcile a b sum) number = number == a || number == b
changes (Merge a b sum) number = number == a || number == b
changes (Relocate copy place) number = number == copy
changes (Remove copy heir) number = number == copy
changes (Note copy sum) number = number == copy
changes (Confirm entry) number = false
changes (Withdraw entry) number = false

-- what entry n's report makes of such a copy
abbrev pub changed : ℕ → Report → List Copy → Copy → Option Copy
changed n (Edit c sum) copies copy = Some (touched n (n ∷ copy.known.set) copy.place (content_by n (Edit c sum) copies) copy)
changed n (Reconcile a b sum) copies copy = Some (touched n (union (known_to copies a) (known_to copies b)) copy.place (content_by n (Reconcile a b sum) copies) copy)
changed n (Merge a b sum) copies copy = Some (touched n (union (n ∷ known_to copies a) (known_to copies b)) copy.place (content_by n (Merge a b sum) copies) copy)
changed n (Relocate c place) copies copy = Some (touched n copy.known.set place copy.content copy)
changed n (Remove c heir) copies copy = None
changed n (Note c sum) copies copy = Some (touched n copy.known.set copy.place (content_by n (Note c sum) copies) copy)
changed n _ copies copy = Some copy

-- what becomes of a copy with entry n's report
abbrev pub made : ℕ → Report → List Copy → Copy → Option Copy
made n report copies copy = if changes report (number_of copy) then changed n report copies copy else Some copy

-- the copy that comes with it, if one does: a file's first copy knows no update, and a duplicate knows what its source knows
abbrev pub comes : ℕ → Report → List Copy → Option Copy
comes n (Register place sum) copies = Some (new_copy n n [] place (content_by n (Register place sum) copies))
comes n (Duplicate source place sum) copies = option_map (λ copy. new_copy n copy.family copy.known.set place (content_by n (Duplicate source place sum) copies)) (copy_in copies source)
comes n _ copies = None

-- the copies after entry n's report
abbrev pub after_report : ℕ → Report → List Copy → List Copy
after_report n report copies = filter_map (made n report copies) copies ++ option_to_list (comes n report copies)

abbrev pub after_entry : List Copy → Entry → List Copy
after_entry copies entry = after_report entry.number entry.report copies

-- the copies that these entries leave
unfoldable pub copies_of : List Entry → List Copy
copies_of entries = fold after_entry [] entries

-- the living copies, by rising number
abbrev pub living : List Entry → List Copy
living journal = copies_of (effective journal)
