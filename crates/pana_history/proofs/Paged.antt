-- Pages of the journal, one after another.
use Rattle.std.proofs.Common.{◌≡◌, ℕ, List, [], ◌∷◌, ◌++◌, Option, None, Some, Result, Ok, Err, OnOk, is_err, false, refl, sym, ap, subst, ◌∙◌, append-nil}
use Rattle.std.specs.List.{flat_map}
use Rattle.std.proofs.lemmas.Grind.{flat_map-append}
use Rattle.pana_journal.specs.declared.entry.Entry.{Entry}
use Rattle.pana_calls.specs.declared.call.Call.{Call}
use Rattle.pana_calls.specs.declared.call.Call.TheVariants as calls
use Rattle.pana_calls.specs.declared.call.Query.TheVariants as queries
use Rattle.pana_calls.specs.declared.reply.Reply.TheVariants.{At, Board, Counts, Did, Done, Families, Holdings, Journal, Known, Pair, Refused, Stamps, Status}
use Rattle.pana_calls.specs.declared.answer.Answer.{Answer}
use Rattle.pana_calls.specs.declared.answer.Answer.TheVariants.{Given, NotKept}
use Rattle.pana_history.specs.Pages.{FullPages, HasJournal, Pages, Stops, next_after}
use Rattle.pana_calls.specs.Parts.{journal_in}
use Rattle.pana_history.specs.inner.Pages.{AsksPage}

-- what holds of a result that is no error
pub was_ok : {T E : Type 0} → (r : Result T E) (P : Type 0) → OnOk r P → is_err r ≡ false → P
was_ok (Ok x) P on is = on
was_ok (Err e) P on is = absurd (cc)

-- the answer that has these entries
is_page : (entries : List Entry) (answer : Answer) → Some entries ≡ journal_in answer → answer ≡ Given (Journal entries)
is_page entries (Given (Journal others)) is = cc
is_page entries (Given (Done entry)) is = absurd (cc)
is_page entries (Given (Did kind entry)) is = absurd (cc)
is_page entries (Given (Known copy)) is = absurd (cc)
is_page entries (Given (Families families)) is = absurd (cc)
is_page entries (Given (Board board)) is = absurd (cc)
is_page entries (Given (Stamps stamps)) is = absurd (cc)
is_page entries (Given (Pair rel)) is = absurd (cc)
is_page entries (Given (Holdings holdings)) is = absurd (cc)
is_page entries (Given (At standing)) is = absurd (cc)
is_page entries (Given (Status rows)) is = absurd (cc)
is_page entries (Given (Counts counts)) is = absurd (cc)
is_page entries (Given (Refused cause)) is = absurd (cc)
is_page entries NotKept is = absurd (cc)

-- the pages so far, and from which number the next one is asked for
pub record PagedSoFar {S : Type 0} (step : S → List ℕ → Call → Answer → S → Type 0) (by : List ℕ) (from : ℕ) (old new : S) (entries : List Entry) : Type 0 where
  pub pages : List (List Entry)
  pub full : FullPages step by 1 old pages new from
  pub entries_are : entries ≡ flat_map (λ page. page) pages

module _ {S : Type 0} (step : S → List ℕ → Call → Answer → S → Type 0) (by : List ℕ) where
  pub none_yet : (old : S) → PagedSoFar step by 1 old old []
  none_yet old = record { pages = []; full = (refl, refl); entries_are = refl }

  -- full pages and one more
  one_more : (from : ℕ) (old mid new : S) (pages : List (List Entry)) (page : List Entry) (next behind : ℕ) → FullPages step by from old pages mid next
      → step mid by (calls.Query (queries.JournalFrom next)) (Given (Journal page)) new → next_after next page ≡ Some behind → FullPages step by from old (pages ++ page ∷ []) new behind
  one_more from old mid new [] page next behind full made is =
      let asked : step old by (calls.Query (queries.JournalFrom from)) (Given (Journal page)) new =
      subst (λ (s : S). step s by (calls.Query (queries.JournalFrom from)) (Given (Journal page)) new) full.0 (subst (λ (n : ℕ). step mid by (calls.Query (queries.JournalFrom n)) (Given (Journal page)) new) full.1 made) in
      (new, behind, asked, ap (λ (n : ℕ). next_after n page) (sym full.1) ∙ is, (refl, refl))
  one_more from old mid new (p ∷ pages) page next behind (s, b, made_first, full_first, rest) made is = (s, b, made_first, full_first, one_more b s mid new pages page next behind rest made is)

  -- and one that is the last
  last_one : (from : ℕ) (old mid new : S) (pages : List (List Entry)) (page : List Entry) (next : ℕ) → FullPages step by from old pages mid next
      → step mid by (calls.Query (queries.JournalFrom next)) (Given (Journal page)) new → next_after next page ≡ None → Pages step by (Some from) old (pages ++ page ∷ []) new
  last_one from old mid new [] page next full made is =
      let asked : step old by (calls.Query (queries.JournalFrom from)) (Given (Journal page)) new =
      subst (λ (s : S). step s by (calls.Query (queries.JournalFrom from)) (Given (Journal page)) new) full.0 (subst (λ (n : ℕ). step mid by (calls.Query (queries.JournalFrom n)) (Given (Journal page)) new) full.1 made) in
      (new, asked, subst (λ (o : Option ℕ). Pages step by o new [] new) (sym (ap (λ (n : ℕ). next_after n page) (sym full.1) ∙ is)) refl)
  last_one from old mid new (p ∷ pages) page next (s, b, made_first, full_first, rest) made is =
      (s, made_first, subst (λ (o : Option ℕ). Pages step by o s (pages ++ page ∷ []) new) (sym full_first) (last_one b s mid new pages page next rest made is))

  module _ (from : ℕ) (old mid : S) (entries : List Entry) (far : PagedSoFar step by from old mid entries) where
    pub stops : (fails : S → List ℕ → Call → S → Type 0) (new : S) → fails mid by (calls.Query (queries.JournalFrom from)) new → Stops step fails by old new
    stops fails new failed = record { pages = far.pages; mid = mid; from = from; asked = far.full; failed = failed }

    module _ (new : S) (page : List Entry) (asks : AsksPage step by from mid new (Some page)) (all : List Entry) (more : all ≡ entries ++ page) where
      answered : step mid by (calls.Query (queries.JournalFrom from)) (Given (Journal page)) new
      answered = subst (λ (answer : Answer). step mid by (calls.Query (queries.JournalFrom from)) answer new) (is_page page asks.0 asks.2) asks.1

      entries_are : all ≡ flat_map (λ page. page) (far.pages ++ page ∷ [])
      entries_are =
          more ∙ ap (λ (r : List Entry). r ++ page) far.entries_are
          ∙ sym (flat_map-append (λ (p : List Entry). p) far.pages (page ∷ []) ∙ ap (λ (p : List Entry). flat_map (λ page. page) far.pages ++ p) (append-nil page))

      -- it is the last
      pub ends : next_after from page ≡ None → HasJournal step by old new all
      ends none = (far.pages ++ page ∷ [], last_one 1 old mid new far.pages page from far.full answered none, entries_are)

      -- another follows
      pub goes_on : (number : ℕ) → next_after from page ≡ Some number → PagedSoFar step by number old new all
      goes_on number some = record { pages = far.pages ++ page ∷ []; full = one_more 1 old mid new far.pages page from number far.full answered some; entries_are = entries_are }
