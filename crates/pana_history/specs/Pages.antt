-- The journal, page by page.
use Rattle.std.specs.Prelude.{◌≡◌, ℕ, ◌+◌, ◌-◌, ◌^◌, min, nat_lt, List, [], ◌∷◌, length, Option, Some, None, if◌then◌else◌}
use Rattle.std.specs.List.{flat_map}
use Rattle.pana_journal.specs.declared.entry.Entry.{Entry}
use Rattle.pana_calls.specs.declared.call.Call.{Call}
use Rattle.pana_calls.specs.declared.call.Call.TheVariants as calls
use Rattle.pana_calls.specs.declared.call.Query.TheVariants as queries
use Rattle.pana_calls.specs.declared.reply.Reply.TheVariants.{Journal}
use Rattle.pana_calls.specs.declared.answer.Answer.{Answer}
use Rattle.pana_calls.specs.declared.answer.Answer.TheVariants.{Given}

-- the number from which the next page is to be asked for, behind the 100 entries of a full one; one that isn't full is the last
abbrev pub next_after : ℕ → List Entry → Option ℕ
next_after from page = if nat_lt (length page) 100 then None else Some (min (from + 100) (2 ^ 64 - 1))

-- the device asks for these pages, from this number on, until one isn't full
abbrev pub Pages : {S : Type 0} → (S → List ℕ → Call → Answer → S → Type 0) → List ℕ → Option ℕ → S → List (List Entry) → S → Type 0
Pages step by None old [] new = new ≡ old
Pages step by None old (page ∷ pages) new = ⊥
Pages step by (Some from) old [] new = ⊥
Pages {S = S} step by (Some from) old (page ∷ pages) new = (mid : S) × step old by (calls.Query (queries.JournalFrom from)) (Given (Journal page)) mid × Pages step by (next_after from page) mid pages new

-- the entries are those of all pages
abbrev pub HasJournal : {S : Type 0} → (S → List ℕ → Call → Answer → S → Type 0) → List ℕ → S → S → List Entry → Type 0
HasJournal step by old new entries = (pages : List (List Entry)) × Pages step by (Some 1) old pages new × (entries ≡ flat_map (λ page. page) pages)

-- the device asks for these pages, from this number on, each of which is full; the next page is asked for from that number on
abbrev pub FullPages : {S : Type 0} → (S → List ℕ → Call → Answer → S → Type 0) → List ℕ → ℕ → S → List (List Entry) → S → ℕ → Type 0
FullPages step by from old [] new next = (new ≡ old) × (next ≡ from)
FullPages {S = S} step by from old (page ∷ pages) new next = (mid : S) × (behind : ℕ) × step old by (calls.Query (queries.JournalFrom from)) (Given (Journal page)) mid
    × (next_after from page ≡ Some behind) × FullPages step by behind mid pages new next

-- the device asks for pages, and one has no answer
pub record Stops {S : Type 0} (step : S → List ℕ → Call → Answer → S → Type 0) (fails : S → List ℕ → Call → S → Type 0) (by : List ℕ) (old new : S) : Type 0 where
  pub pages : List (List Entry)
  pub mid : S
  pub from : ℕ
  pub asked : FullPages step by 1 old pages mid from
  pub failed : fails mid by (calls.Query (queries.JournalFrom from)) new
