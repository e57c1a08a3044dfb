-- Pages of copies that are obsolete or in conflict, one after another.
use Rattle.std.proofs.Common.{◌≡◌, ℕ, List, [], ◌∷◌, ◌++◌, Option, None, Some, refl, sym, ap, subst, ◌∙◌, append-nil, append_assoc}
use Rattle.std.specs.List.{flat_map}
use Rattle.std.proofs.lemmas.Grind.{flat_map-append}
use Rattle.pana_calls.specs.declared.call.Call.{Call}
use Rattle.pana_calls.specs.declared.call.Call.TheVariants as calls
use Rattle.pana_calls.specs.declared.call.Query.TheVariants as queries
use Rattle.pana_calls.specs.declared.reply.Reply.TheVariants.{At, Board, Counts, Did, Done, Families, Holdings, Journal, Known, Pair, Refused, Stamps, Status}
use Rattle.pana_calls.specs.declared.standing.StatusRow.{StatusRow}
use Rattle.pana_calls.specs.declared.answer.Answer.{Answer}
use Rattle.pana_calls.specs.declared.answer.Answer.TheVariants.{Given, NotKept}
use Rattle.pana_track.specs.Calls.{Asked, Makes}
use Rattle.pana_track.specs.Status.{HasAll, Pages, next_after}
use Rattle.pana_calls.specs.Parts.{status_in}
use Rattle.pana_track.specs.inner.Pages.{AsksPage, Stops}
use Rattle.pana_track.proofs.Reported.{makes_on}

-- the answer that has these rows
is_page : (rows : List StatusRow) (answer : Answer) → Some rows ≡ status_in answer → answer ≡ Given (Status rows)
is_page rows (Given (Status others)) is = cc
is_page rows (Given (Done entry)) is = absurd (cc)
is_page rows (Given (Did kind entry)) is = absurd (cc)
is_page rows (Given (Known copy)) is = absurd (cc)
is_page rows (Given (Families families)) is = absurd (cc)
is_page rows (Given (Board board)) is = absurd (cc)
is_page rows (Given (Stamps stamps)) is = absurd (cc)
is_page rows (Given (Pair rel)) is = absurd (cc)
is_page rows (Given (Holdings holdings)) is = absurd (cc)
is_page rows (Given (At standing)) is = absurd (cc)
is_page rows (Given (Journal entries)) is = absurd (cc)
is_page rows (Given (Counts counts)) is = absurd (cc)
is_page rows (Given (Refused cause)) is = absurd (cc)
is_page rows NotKept is = absurd (cc)

-- the pages so far, and from which number the next one is asked for
pub record PagedSoFar {S : Type 0} (step : S → List ℕ → Call → Answer → S → Type 0) (by : List ℕ) (from : ℕ) (old new : S) (rows : List StatusRow) : Type 0 where
  pub made : List Asked
  pub calls : Makes step old made new
  pub pages : List (List StatusRow)
  pub are : (others : List (List StatusRow)) (left : S) → Pages step by (Some from) new others left → Pages step by (Some 1) old (pages ++ others) left
  pub rows_are : rows ≡ flat_map (λ page. page) pages

module _ {S : Type 0} (step : S → List ℕ → Call → Answer → S → Type 0) (by : List ℕ) where
  pub none_yet : (old : S) → PagedSoFar step by 1 old old []
  none_yet old = record { made = []; calls = refl; pages = []; are = λ others left is. is; rows_are = refl }

  module _ (from : ℕ) (old mid : S) (rows : List StatusRow) (far : PagedSoFar step by from old mid rows) where
    pub stops : (fails : S → List ℕ → Call → S → Type 0) (new : S) → fails mid by (calls.Query (queries.Status None from)) new → Stops step fails by old new
    stops fails new failed = record { made = far.made; mid = mid; from = from; calls = far.calls; failed = failed }

    module _ (new : S) (page : List StatusRow) (asks : AsksPage step by from mid new (Some page)) (all : List StatusRow) (more : all ≡ rows ++ page) where
      answered : step mid by (calls.Query (queries.Status None from)) (Given (Status page)) new
      answered = subst (λ (answer : Answer). step mid by (calls.Query (queries.Status None from)) answer new) (is_page page asks.0 asks.2) asks.1

      rows_are : all ≡ flat_map (λ page. page) (far.pages ++ page ∷ [])
      rows_are =
          more ∙ ap (λ (r : List StatusRow). r ++ page) far.rows_are
          ∙ sym (flat_map-append (λ (p : List StatusRow). p) far.pages (page ∷ []) ∙ ap (λ (p : List StatusRow). flat_map (λ page. page) far.pages ++ p) (append-nil page))

      -- it is the last
      pub ends : next_after page ≡ None → HasAll step by old new all
      ends none = (far.pages ++ page ∷ [], far.are (page ∷ []) new (new, answered, subst (λ (next : Option ℕ). Pages step by next new [] new) (sym none) refl), rows_are)

      -- another follows
      pub goes_on : (number : ℕ) → next_after page ≡ Some number → PagedSoFar step by number old new all
      goes_on number some = record {
        made = far.made ++ record { by = by; call = calls.Query (queries.Status None from); answer = Given (Status page) } ∷ [];
        calls = makes_on step old mid new far.made (record { by = by; call = calls.Query (queries.Status None from); answer = Given (Status page) } ∷ []) far.calls (new, answered, refl);
        pages = far.pages ++ page ∷ [];
        are = λ others left is.
            subst (λ (ps : List (List StatusRow)). Pages step by (Some 1) old ps left) (sym (append_assoc far.pages (page ∷ []) others))
            (far.are (page ∷ others) left (new, answered, subst (λ (next : Option ℕ). Pages step by next new others left) (sym some) is));
        rows_are = rows_are;
      }
