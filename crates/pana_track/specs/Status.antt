-- The copies that are obsolete or in conflict, page by page.
use Rattle.std.specs.Prelude.{◌≡◌, ℕ, ◌+◌, ◌-◌, ◌^◌, min, List, [], ◌∷◌, slice_get, Option, Some, None, option_map}
use Rattle.std.specs.List.{flat_map}
use Rattle.pana_calls.specs.declared.call.Call.{Call}
use Rattle.pana_calls.specs.declared.call.Call.TheVariants as calls
use Rattle.pana_calls.specs.declared.call.Query.TheVariants as queries
use Rattle.pana_calls.specs.declared.reply.Reply.TheVariants.{Status}
use Rattle.pana_calls.specs.declared.standing.StatusRow.{StatusRow}
use Rattle.pana_calls.specs.declared.answer.Answer.{Answer}
use Rattle.pana_calls.specs.declared.answer.Answer.TheVariants.{Given}

-- the number from which the next page is to be asked for: the one after that of the hundredth row; where there is none, all
-- pages were asked for
abbrev pub next_after : List StatusRow → Option ℕ
next_after page = option_map (λ row. min (row.copy + 1) (2 ^ 64 - 1)) (slice_get page 99)

-- the device asks for these pages, from this number on, until one isn't full
abbrev pub Pages : {S : Type 0} → (S → List ℕ → Call → Answer → S → Type 0) → List ℕ → Option ℕ → S → List (List StatusRow) → S → Type 0
Pages step by None old [] new = new ≡ old
Pages step by None old (page ∷ pages) new = ⊥
Pages step by (Some from) old [] new = ⊥
Pages {S = S} step by (Some from) old (page ∷ pages) new = (mid : S) × step old by (calls.Query (queries.Status None from)) (Given (Status page)) mid × Pages step by (next_after page) mid pages new

-- the rows are those of all pages
abbrev pub HasAll : {S : Type 0} → (S → List ℕ → Call → Answer → S → Type 0) → List ℕ → S → S → List StatusRow → Type 0
HasAll step by old new rows = (pages : List (List StatusRow)) × Pages step by (Some 1) old pages new × (rows ≡ flat_map (λ page. page) pages)
