-- Boards that are asked for, one after another.
use Rattle.std.proofs.Common.{Result, Ok, Err, is_ok, is_err, false, cond, ◌≡◌, ◌<◌, ◌≤◌, ◌+◌, ℕ, List, [], ◌∷◌, ◌++◌, length, drop, drop-cons, get_or, map, refl, sym, ap, subst, ◌∙◌, append-nil, append_assoc, add-one}
use Rattle.std.specs.Prelude.{IsErrOf}
use Rattle.std.specs.List.{flat_map}
use Rattle.std.proofs.lemmas.Grind.{flat_map-append}
use Rattle.std.proofs.lemmas.List.{drop_all, map-append}
use Rattle.pana_calls.specs.declared.answer.Answer.{Answer}
use Rattle.pana_calls.specs.declared.answer.Answer.TheVariants.{Given}
use Rattle.pana_calls.specs.declared.board.BoardView.{BoardView}
use Rattle.pana_calls.specs.declared.call.Call.{Call}
use Rattle.pana_calls.specs.declared.family_row.FamilyRow.{FamilyRow}
use Rattle.pana_calls.specs.declared.reply.Reply.TheVariants as replies
use Rattle.pana_track.specs.Calls.{Asked, Makes}
use Rattle.pana_track.proofs.Reported.{makes_on}
use Rattle.pana_commands.specs.Boards.{AsksBoards, board, families}
use Rattle.pana_commands.specs.Track.{IsCut}
use Rattle.pana_commands.proofs.Cut.{cut_on}

-- what is pushed stands behind the rest
pub pushed : {X Y E : Type 0} (text : Y → List ℕ) (r : Result X E) (old new : List Y) (y : Y) → is_err r ≡ false → new ≡ cond (is_ok r) (old ++ y ∷ []) old → map text new ≡ map text old ++ text y ∷ []
pushed text (Ok x) old new y fine is = ap (map text) is ∙ map-append text old (y ∷ [])
pushed text (Err e) old new y fine is = absurd (cc)

-- an error that is passed on
pub passed_on : {T U E : Type 0} (r : Result T E) (e field fault : E) → r ≡ Err e → e ≡ field → r ≡ Err fault → IsErrOf {T = U} (Err field) fault
passed_on r e field fault is same was = let found : e ≡ fault = cc in ap Err (sym same ∙ found)

-- what each board gives, one behind the other, of one item each
pub one_each : {X Y : Type 0} (f : X → Y) (xs : List X) → flat_map (λ x. f x ∷ []) xs ≡ map f xs
one_each f [] = refl
one_each {Y = Y} f (x ∷ xs) = ap (λ (rest : List Y). f x ∷ rest) (one_each f xs)

-- so many boards were asked for, and these are the items that they have
pub record BoardsSoFar {S A : Type 0} (step : S → List ℕ → Call → Answer → S → Type 0) (by : List ℕ) (items_in : BoardView → List A) (numbers : List ℕ) (index : ℕ) (old new : S) (items : List A) : Type 0 where
  pub made : List Asked
  pub calls : Makes step old made new
  pub views : List BoardView
  pub are : (others : List BoardView) (left : S) → AsksBoards step by (drop index numbers) new others left → AsksBoards step by numbers old (views ++ others) left
  pub items_are : items ≡ flat_map items_in views

module _ {S A : Type 0} (step : S → List ℕ → Call → Answer → S → Type 0) (by : List ℕ) (items_in : BoardView → List A) where
  pub no_boards : (numbers : List ℕ) (old : S) → BoardsSoFar step by items_in numbers 0 old old []
  no_boards numbers old = record { made = []; calls = refl; views = []; are = λ others left is. is; items_are = refl }

  module _ (numbers : List ℕ) (index : ℕ) (old mid : S) (items : List A) (far : BoardsSoFar step by items_in numbers index old mid items) where
    -- the boards are those of all families
    pub all_boards : length numbers ≤ index → AsksBoards step by numbers old far.views mid
    all_boards past =
        subst (λ (views : List BoardView). AsksBoards step by numbers old views mid) (append-nil far.views)
        (far.are [] mid (subst (λ (rest : List ℕ). AsksBoards step by rest mid [] mid) (sym (drop_all index numbers past)) refl))

    module _ (d : ℕ) (within : index < length numbers) where
      pub next_board : (new : S) (view : BoardView) (more : List A) → step mid by (board (get_or numbers index d)) (Given (replies.Board view)) new → more ≡ items ++ items_in view
          → BoardsSoFar step by items_in numbers (index + 1) old new more
      next_board new view more asks longer = record {
        made = far.made ++ record { by = by; call = board (get_or numbers index d); answer = Given (replies.Board view) } ∷ [];
        calls = makes_on step old mid new far.made (record { by = by; call = board (get_or numbers index d); answer = Given (replies.Board view) } ∷ []) far.calls (new, asks, refl);
        views = far.views ++ view ∷ [];
        are = λ others left rest.
            subst (λ (views : List BoardView). AsksBoards step by numbers old views left) (sym (append_assoc far.views (view ∷ []) others))
            (far.are (view ∷ others) left (subst (λ (left_over : List ℕ). AsksBoards step by left_over mid (view ∷ others) left) (sym here) (new, asks, rest)));
        items_are = longer ∙ ap (λ (t : List A). t ++ items_in view) far.items_are
            ∙ sym (flat_map-append items_in far.views (view ∷ []) ∙ ap (λ (t : List A). flat_map items_in far.views ++ t) (append-nil (items_in view)));
      } where
        here : drop index numbers ≡ get_or numbers index d ∷ drop (index + 1) numbers
        here = drop-cons numbers index d within ∙ ap (λ (k : ℕ). get_or numbers index d ∷ drop k numbers) (sym (add-one index))

module _ {S : Type 0} (step : S → List ℕ → Call → Answer → S → Type 0) (by : List ℕ) where
  -- boards that were asked for are calls that were made
  pub boards_made : (numbers : List ℕ) (old : S) (views : List BoardView) (new : S) → AsksBoards step by numbers old views new → (made : List Asked) × Makes step old made new
  boards_made [] old [] new is = ([], is)
  boards_made [] old (view ∷ views) new is = absurd is
  boards_made (number ∷ numbers) old [] new is = absurd is
  boards_made (number ∷ numbers) old (view ∷ views) new is =
      let more = boards_made numbers is.0 views new is.2 in
      (record { by = by; call = board number; answer = Given (replies.Board view) } ∷ more.0, (is.0, is.1, more.1))

  module _ (fails : S → List ℕ → Call → S → Type 0) (old mid new : S) where
    pub no_families : fails old by families new → IsCut step fails old new
    no_families failed = record { made = []; mid = old; by = by; call = families; calls = refl; failed = failed }

    pub cut_behind_families : (rows : List FamilyRow) → step old by families (Given (replies.Families rows)) mid → IsCut step fails mid new → IsCut step fails old new
    cut_behind_families rows asked cut = cut_on step fails old mid new (record { by = by; call = families; answer = Given (replies.Families rows) } ∷ []) (mid, asked, refl) cut
