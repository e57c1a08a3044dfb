-- The pages that a hall answers are its journal.
use Rattle.std.proofs.Common.{◌≡◌, ℕ, ◌+◌, ◌-◌, ◌<◌, ◌≤◌, List, [], ◌∷◌, ◌++◌, length, take, drop, Option, Some, None, refl, inl, inr, sym, ap, subst, ◌∙◌, arith, append-nil}
use Rattle.std.specs.List.{flat_map}
use Rattle.std.proofs.lemmas.Bool.{cases_lt}
use Rattle.std.proofs.lemmas.List.{drop-drop, length-drop, length-take-le, take-append-drop, take_all}
use Rattle.pana_copies.specs.declared.place.Place.{Place}
use Rattle.pana_journal.specs.declared.entry.Entry.{Entry}
use Rattle.pana_journal.specs.Entries.{page}
use Rattle.pana_calls.specs.declared.call.Call.TheVariants as calls
use Rattle.pana_calls.specs.declared.call.Query.TheVariants as queries
use Rattle.pana_calls.specs.declared.cause.Cause.{Cause}
use Rattle.pana_calls.specs.declared.reply.Reply.TheVariants as replies
use Rattle.pana_hall.proofs.Words.{nat_tests}
use Rattle.pana_hall.specs.Permit.{Permits, PermitsBy, journal_after}
use Rattle.pana_hall.specs.Refusal.{refusal}
use Rattle.pana_hall.specs.Step.{Replies}
use Rattle.pana_history.specs.Pages.{HasJournal, Pages, next_after}
use Rattle.pana_history.specs.History.{Draws, IsDrawn}
use Rattle.pana_history.specs.Why.{Explains, IsExplained}
use Rattle.pana_history.specs.declared.history.Form.{Form}
use Rattle.pana_history.specs.declared.history.History.{History}
use Rattle.pana_history.specs.declared.why.Explanation.{Explanation}

page_by : (cause : Option Cause) (journal : List Entry) (from : ℕ) (entries : List Entry) → PermitsBy cause journal (calls.Query (queries.JournalFrom from)) (replies.Journal entries) → entries ≡ page journal from
page_by (Some cause) journal from entries permits = absurd (cc)
page_by None journal from entries (inl same) = cc
page_by None journal from entries (inr (cause, shortage, odd)) = absurd (cc)

page_asked : (journal : List Entry) (by : List ℕ) (from : ℕ) (entries : List Entry) → Permits journal by (calls.Query (queries.JournalFrom from)) (replies.Journal entries) → entries ≡ page journal from
unfolding Permits
page_asked journal by from entries permits = page_by (refusal journal by (calls.Query (queries.JournalFrom from))) journal from entries permits

left_asked : (journal : List Entry) (by : List ℕ) (from : ℕ) (entries : List Entry) → journal_after journal by (calls.Query (queries.JournalFrom from)) (replies.Journal entries) ≡ journal
unfolding journal_after
left_asked journal by from entries = refl

-- the number of the next page, where this one is full
next_full : (from : ℕ) (entries : List Entry) → length entries ≡ 100 → from ≤ 1000000 → next_after from entries ≡ Some (from + 100)
next_full from entries full within = grind (arith, nat_tests)

next_none : (from : ℕ) (entries : List Entry) → length entries < 100 → next_after from entries ≡ None
next_none from entries less = grind (arith, nat_tests)

-- a page that isn't full is the rest, and behind a full one there is the rest
page_last : (entries : List Entry) → length entries < 100 → take 100 entries ≡ entries
page_last entries less = take_all 100 entries (omega arith)

module _ (by : List ℕ) (old new : List Entry) (few : length old ≤ 1000000) where
  -- the pages from a number on
  pages_are : (from : ℕ) (pages : List (List Entry)) → 0 < from → Pages Replies by (Some from) old pages new → (flat_map (λ p. p) pages ≡ drop (from - 1) old) × (new ≡ old)
  pages_are from [] some is = absurd is
  pages_are from (p ∷ pages) some (mid, asked, rest) =
      let rows : p ≡ page old from = page_asked old by from p asked.0 in
      let same : mid ≡ old = asked.1 ∙ left_asked old by from p in
      let behind = drop (from - 1) old in
      elim (cases_lt (length behind) 100) [
        | inl less ↦
            let whole : p ≡ behind = rows ∙ page_last behind less in
            let none = next_none from p (subst (λ (l : List Entry). length l < 100) (sym whole) less) in
            let last = ends pages (subst (λ (o : Option ℕ). Pages Replies by o mid pages new) none rest) in
            (ap (λ (l : List (List Entry)). p ++ flat_map (λ q. q) l) last.0 ∙ append-nil p ∙ whole, last.1 ∙ same)
        | inr more ↦
            let full : length p ≡ 100 = ap length rows ∙ length-take_full behind more in
            let within : from ≤ 1000000 = let cut = length-drop (from - 1) old in omega arith in
            let some_next = next_full from p full within in
            let others = pages_are (from + 100) pages (omega arith) (subst (λ (m : List Entry). Pages Replies by (Some (from + 100)) m pages new) same (subst (λ (o : Option ℕ). Pages Replies by o mid pages new) some_next rest)) in
            let behind_is : drop (from + 100 - 1) old ≡ drop 100 behind = ap (λ n. drop n old) (let it : from + 100 - 1 ≡ from - 1 + 100 = omega arith in it) ∙ drop_more (from - 1) old in
            (ap (λ (l : List Entry). p ++ l) (others.0 ∙ behind_is) ∙ ap (λ (l : List Entry). l ++ drop 100 behind) rows ∙ take-append-drop 100 behind, others.1)
      ]
    where
      ends : (pages : List (List Entry)) → {mid : List Entry} → Pages Replies by None mid pages new → (pages ≡ []) × (new ≡ mid)
      ends [] is = (refl, is)
      ends (q ∷ pages) is = absurd is

      length-take_full : (entries : List Entry) → 100 ≤ length entries → length (take 100 entries) ≡ 100
      length-take_full entries more = length-take-le 100 entries more

      drop_more : (n : ℕ) (entries : List Entry) → drop (n + 100) entries ≡ drop 100 (drop n entries)
      drop_more n entries = sym (drop-drop 100 n entries)

  pub whole : (entries : List Entry) → HasJournal Replies by old new entries → (entries ≡ old) × (new ≡ old)
  whole entries has = let are = pages_are 1 has.0 (omega arith) has.1 in (has.2 ∙ are.0, are.1)

pub explained : (by : List ℕ) (first second : Place) (old new : List Entry) (explanation : Explanation) → length old ≤ 1000000 → Explains Replies by first second old new explanation → IsExplained old first second explanation × (new ≡ old)
explained by first second old new explanation few explains =
    let is = whole by old new few explains.journal explains.has in
    (subst (λ (journal : List Entry). IsExplained journal first second explanation) is.0 explains.explained, is.1)

pub drawn : (by : List ℕ) (place : Place) (form : Form) (old new : List Entry) (history : History) → length old ≤ 1000000 → Draws Replies by place form old new history → IsDrawn old place form history × (new ≡ old)
drawn by place form old new history few draws =
    let is = whole by old new few draws.journal draws.has in
    (subst (λ (journal : List Entry). IsDrawn journal place form history) is.0 draws.drawn, is.1)
