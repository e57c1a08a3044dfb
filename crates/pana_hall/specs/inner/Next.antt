-- The next entry of a journal, before it is made.
use Rattle.std.specs.Prelude.{◌≡◌, ◌≢◌, IsSome, ℕ, ◌+◌, ◌<◌, ◌≤◌, length, List, [], ◌∷◌, ◌++◌, Option, Some, None, IfSome, Bool, true, false, slice_get, vec_len, vec_capacity}
use Rattle.pana_copies.specs.Spots.{Table}
use Rattle.pana_journal.specs.declared.report.Report.{Report}
use Rattle.pana_journal.specs.declared.report.Report.TheVariants.{Edit, Register}
use Rattle.pana_family.specs.declared.report.FamilyReport.{FamilyReport}
use Rattle.pana_hall.specs.declared.listed_family.ListedFamily.{ListedFamily}
use Rattle.pana_hall.specs.declared.next.Effects.{Effects}
use Rattle.pana_hall.specs.declared.next.Next.{Next}
use Rattle.pana_hall.specs.declared.next.Step.{Step}
use Rattle.pana_hall.specs.declared.next.Step.TheVariants.{Begin, Change, Settle}
use Rattle.pana_hall.specs.declared.state.State.{State}
use Rattle.pana_hall.specs.declared.contents.Sayings.{Sayings}
use Rattle.pana_journal.specs.declared.entry.Entry.{Entry}
use Rattle.pana_hall.specs.Family.{families, family_report}
use Rattle.pana_hall.specs.Effective.{is_of_copies}
use Rattle.pana_hall.specs.Refusal.{report_refusal, with_report}
use Rattle.pana_hall.specs.Living.{Copy, copy_in, living}
use Rattle.pana_hall.specs.inner.Spots.{place_in}
use Rattle.pana_hall.specs.inner.Listed.{IsGrown, IsPreparedAfter, IsPreparedFor, all_listed}
use Rattle.pana_hall.specs.inner.Kept.{before_of, next_entry, position_for}
use Rattle.pana_hall.specs.inner.Undo.{earlier_of}
use Rattle.pana_hall.specs.inner.Contents.{AreContents, all_written, content_at, said_in}

-- the step is what an entry makes of a family that has begun, before which these copies live
abbrev pub IsStepOf : Entry → ListedFamily → List Copy → Step → Type 0
IsStepOf entry it copies (Begin place) = ⊥
IsStepOf entry it copies (Change change place before) =
    (of : FamilyReport) × (family_report entry.report ≡ Some of) × IsPreparedFor entry.number of change it × (place ≡ place_in entry.report)
    × (earlier_of before ≡ before_of (Some entry) copies)
IsStepOf entry it copies Settle = (is_of_copies entry.report ≡ false) × IsGrown it

-- the family at the position takes the step
pub record Takes (entry : Entry) (list : List ListedFamily) (position : ℕ) (copies : List Copy) (step : Step) : Type 0 where
  pub it : ListedFamily
  pub found : slice_get list position ≡ Some it
  pub is : IsStepOf entry it copies step

-- what an entry makes of the families, of which a list of this length and capacity has these
abbrev pub IsStep : Entry → ℕ → ℕ → List ListedFamily → ℕ → List Copy → Step → Type 0
IsStep entry len capacity list position copies (Begin place) = (sum : Option (List ℕ)) × (entry.report ≡ Register place sum) × (len < capacity)
IsStep entry len capacity list position copies step = Takes entry list position copies step

-- the sayings are of copies that the journal has made, with its next entry, and with them the contents are those after the entry
pub record AreSayings (journal : List Entry) (entry : Entry) (contents : List ℕ) (sayings : Sayings) : Type 0 where
  pub first : IfSome sayings.first (λ s. (0 < s.copy) × (s.copy ≤ length journal + 1))
  pub second : IfSome sayings.second (λ s. (0 < s.copy) × (s.copy ≤ length journal + 1))
  pub at : (number : ℕ) → all_written sayings (content_at contents) number ≡ said_in (living (journal ++ entry ∷ [])) number

-- an Edit leaves all copies where they are
abbrev pub is_edit : Report → Bool
is_edit (Edit copy sum) = true
is_edit _ = false

-- the table has room for what the report does to it
abbrev pub HasRoomFor : Report → Table → Type 0
HasRoomFor report table = is_edit report ≡ false → 0 < table.room

-- there is room for so many entries
pub record HasRoom (count : ℕ) (state : State) : Type 0 where
  pub entries : count ≤ state.journal.room
  pub positions : vec_len state.families.positions + count ≤ vec_capacity state.families.positions
  pub contents : vec_len state.contents.entries + count ≤ vec_capacity state.contents.entries

-- nothing stands against the report, and there is room for all that it changes
pub record IsNext (state : State) (next : Next) : Type 0 where
  pub number : next.entry.number ≡ length state.journal.entries + 1
  pub free : report_refusal 8 state.journal.entries (living state.journal.entries) next.entry.by next.entry.report ≡ None
  pub position : position_for (all_listed state.families.list.items) state.families.positions.items next.entry.report ≡ Some next.position
  pub room : HasRoom 1 state
  pub copies : HasRoomFor next.entry.report state.copies
  pub sayings : AreSayings state.journal.entries next.entry state.contents.entries.items next.sayings
  pub step : IsStep next.entry (vec_len state.families.list) (vec_capacity state.families.list) state.families.list.items next.position (living state.journal.entries) next.step

-- the next entry of a journal, with this report of a device, and what it changes
abbrev pub next_of : List Entry → List ℕ → Report → Effects → Next
next_of journal by report effects = record { entry = next_entry journal by report; position = effects.position; sayings = effects.sayings; step = effects.step }

-- the step is what an entry makes of a family behind the one before it, when these copies live
abbrev pub IsStepAfter : Entry → Entry → ListedFamily → List Copy → Step → Type 0
IsStepAfter entry next it copies (Change change place before) =
    (of : FamilyReport) × (family_report entry.report ≡ Some of) × (second : FamilyReport) × (family_report next.report ≡ Some second)
    × IsPreparedAfter entry.number of next.number second change it × (place ≡ place_in next.report)
    × (earlier_of before ≡ before_of (Some next) copies)
IsStepAfter entry next it copies step = ⊥

-- the family at the position takes the step then
pub record TakesAfter (entry next : Entry) (list : List ListedFamily) (position : ℕ) (copies : List Copy) (step : Step) : Type 0 where
  pub it : ListedFamily
  pub found : slice_get list position ≡ Some it
  pub is : IsStepAfter entry next it copies step

-- Edits of two living copies of one family
pub record AreTwo (journal : List Entry) (first second : Report) : Type 0 where
  pub a : ℕ
  pub b : ℕ
  pub first_sum : Option (List ℕ)
  pub second_sum : Option (List ℕ)
  pub first_is : first ≡ Edit a first_sum
  pub second_is : second ≡ Edit b second_sum
  pub other : a ≢ b
  pub first_lives : IsSome (copy_in (living journal) a)
  pub second_lives : IsSome (copy_in (living journal) b)
  pub family : families journal a ≡ families journal b

-- the second is to be the entry behind the next one, and there is room for all that both change
pub record IsSecond (state : State) (first second : Next) : Type 0 where
  pub two : AreTwo state.journal.entries first.entry.report second.entry.report
  pub entry : second.entry ≡ next_entry (with_report state.journal.entries first.entry.by first.entry.report) first.entry.by second.entry.report
  pub free : (let journal = with_report state.journal.entries first.entry.by first.entry.report in report_refusal 8 journal (living journal) first.entry.by second.entry.report ≡ None)
  pub position : second.position ≡ first.position
  pub room : HasRoom 2 state
  pub sayings : (said : List ℕ) → (let journal = with_report state.journal.entries first.entry.by first.entry.report in AreContents journal said → AreSayings journal second.entry said second.sayings)
  pub step : TakesAfter first.entry second.entry state.families.list.items first.position (living (with_report state.journal.entries first.entry.by first.entry.report)) second.step

-- an entry, or two
abbrev pub ArePlanned : State → Next → Option Next → Type 0
ArePlanned state next None = IsNext state next
ArePlanned state next (Some second) = IsNext state next × IsSecond state next second
