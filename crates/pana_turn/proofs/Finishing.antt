-- The step that finishes a call: it joins the history, and the hall goes back to its slot.
use Rattle.std.specs.Prelude.{◌≡◌, ℕ, ◌+◌, ◌%◌, ◌^◌, ◌<◌, List, [], ◌∷◌, ◌++◌, length, set, slice_index, Some}
use Rattle.std.specs.Prelude.{Option as Maybe}
use Rattle.std.proofs.Common.{◌≢◌, refl, sym, ap, ◌∙◌, subst, inl, inr, ⊎_elim, length-append, append-nil, arith}
use Rattle.std.proofs.Math.Nat.{mod-eq_of_lt}
use mathlib.Core.Option.{some, none}
use lib.ListN.{get_elem?}
use Rattle.atomic_table.specs.Table.{State, gives, Allows}
use Rattle.atomic_table.proofs.Lists.{at_set}
use Rattle.pana_turn.specs.declared.finished_call.FinishedCall.{FinishedCall}
use Rattle.pana_turn.specs.declared.view.Account.{Account}
use Rattle.pana_turn.specs.declared.view.Stage.{Stage}
use Rattle.pana_turn.specs.declared.view.Stage.TheVariants.{Idle, Tested, Drawn, Turn}
use Rattle.pana_turn.specs.declared.view.View.{View}
use Rattle.pana_turn.specs.History.{IsHistory, calls_of, left_by}
use Rattle.pana_turn.specs.Rule.{Course, DeskKey, IsAccountOf, FitsStage, Fits, IsHome, KeepsTo, Keeps, drawn_by, busy_by, passes_of}
use Rattle.pana_turn.specs.inner.Views.{pass}
use Rattle.pana_turn.specs.inner.Steps.{Finished, Finishes, Holds}
use Rattle.std.specs.List.{AllByRecursion}
use Rattle.pana_turn.proofs.Histories.{prefix_grows, left_by-push, IsHistory-push, calls_of-own, All-push}
use Rattle.pana_turn.proofs.Seats.{sum_by-put}
use Rattle.pana_turn.proofs.Accounts.{all_along, account_of_other}
use Rattle.pana_turn.proofs.Taking.{tickets_few}

module _ {S C R : Type 0} {step : S → C → R → S → Type 0} where
  module _ (seats : ℕ) (s : State (Maybe S) (View S C R)) (x : Course S C R) (kept : KeepsTo step seats s x) (id number : ℕ) (begun : S) (mine seen : List (FinishedCall S C R))
      (at : get_elem? s.views id ≡ some (pass begun number mine seen Turn)) (c : FinishedCall S C R) (own : c.pass ≡ number) where
    abbrev before : (View S C R)
    before = pass begun number mine seen Turn

    abbrev after : (View S C R)
    after = pass begun number (mine ++ c ∷ []) (seen ++ c ∷ []) Idle

    abbrev grown : (Course S C R)
    grown = record { begun = x.begun; history = x.history ++ c ∷ []; tickets = x.tickets; speaker = x.speaker; holder = x.holder }

    fits_before : Fits seats x id before
    fits_before = kept.fits id before at

    pub saw_all : seen ≡ x.history
    saw_all = fits_before.stage.2

    longer : length (x.history ++ c ∷ []) ≡ length x.history + 1
    longer = length-append x.history (c ∷ [])

    begun_is : begun ≡ x.begun
    begun_is = fits_before.accounts.0.begun

    -- another seat has no account of the pass
    apart : (j : ℕ) → j ≢ id → (a : Account S C R) → IsAccountOf seats x j a → c.pass ≢ a.number
    apart j other a is same = other (sym is.speaker ∙ ap x.speaker (sym same ∙ own) ∙ fits_before.accounts.0.speaker)

    -- another seat's ticket comes later
    stage_after : (j : ℕ) → j ≢ id → (past : List (FinishedCall S C R)) (stage : Stage) → FitsStage x j past stage → FitsStage grown j past stage
    stage_after j other past Idle fits = tt
    stage_after j other past Tested fits = tt
    stage_after j other past (Drawn ticket) fits =
        let later : ticket ≢ length x.history = λ e. other (sym fits.0 ∙ ap x.holder e ∙ fits_before.stage.0) in
        (fits.0, omega (arith, fits.1, longer, later), fits.2)
    stage_after j other past Turn fits = absurd (other (sym fits.0 ∙ fits_before.stage.0))

    fits_other : (j : ℕ) (u : View S C R) → j ≢ id → Fits seats x j u → Fits seats grown j u
    fits_other j u other fits =
        record {
          seen = prefix_grows u.seen x.history (c ∷ []) fits.seen;
          met = prefix_grows u.met x.history (c ∷ []) fits.met;
          accounts = all_along (IsAccountOf seats x j) (IsAccountOf seats grown j) (λ a is. account_of_other seats x j c a (apart j other a is) is) u.accounts fits.accounts;
          stage = stage_after j other u.seen u.stage fits.stage;
          busy = fits.busy;
        }

    fits_after : Fits seats grown id after
    fits_after =
        let a = fits_before.accounts.0 in
        record {
          seen = ([], append-nil (seen ++ c ∷ []) ∙ ap (λ h. h ++ c ∷ []) saw_all);
          met = (x.history ++ c ∷ [], refl);
          accounts = (
            record {
              within = a.within;
              begun = a.begun;
              speaker = a.speaker;
              mine = calls_of-own number x.history c own ∙ ap (λ h. h ++ c ∷ []) a.mine;
              seen = (x.history ++ c ∷ [], refl);
            },
            tt,
          );
          stage = tt;
          busy = omega arith;
        }

    fits_all : (j : ℕ) (u : View S C R) → get_elem? (set s.views id after) j ≡ some u → Fits seats grown j u
    fits_all j u there =
        ⊎_elim
        (λ t. let P : ℕ → (View S C R) → Type 0 = λ i y. Fits seats grown i y in subst (λ i. P i u) (sym t.0) (subst (λ y. P id y) t.1 fits_after))
        (λ t. fits_other j u t.0 (kept.fits j u t.1))
        (at_set s.views id j after u there)

    -- the hall was out
    was_out : s.homes ≡ none ∷ []
    was_out = elim kept.home [ inl h ↦ absurd (h.1 id before at refl) | inr g ↦ g.0 ]

    -- nobody else has the turn
    no_other : (j : ℕ) (u : View S C R) → j ≢ id → get_elem? s.views j ≡ some u → u.stage ≡ Turn → ⊥
    no_other j u other there turn =
        let stands : FitsStage x j u.seen Turn = (let P : Stage → Type 0 = λ stage. FitsStage x j u.seen stage in subst P turn ((kept.fits j u there).stage)) in
        other (sym stands.0 ∙ fits_before.stage.0)

    module _ (steps : step (left_by begun seen) c.call c.reply c.left) where
      left_is : c.left ≡ left_by x.begun (x.history ++ c ∷ [])
      left_is = sym (left_by-push x.begun x.history c)

      home_after : IsHome grown (set s.homes 0 (some (Some c.left))) (set s.views id after)
      home_after =
          inl (
            ap (λ hs. set hs 0 (some (Some c.left))) was_out ∙ ap (λ j. some (Some j) ∷ []) left_is,
            (λ j u there turn.
                ⊎_elim (λ t. let odd : Idle ≡ Turn = ap (λ y. y.stage) t.1 ∙ turn in absurd (cc)) (λ t. no_other j u t.0 t.1 turn) (at_set s.views id j after u there)),
          )

      run_before : IsHistory step begun seen
      run_before = subst (λ (b : S). IsHistory step b seen) (sym begun_is) (subst (IsHistory step x.begun) (sym saw_all) kept.run)

      run_seen : IsHistory step begun (seen ++ c ∷ [])
      run_seen = IsHistory-push step begun seen c run_before steps

      run_after : IsHistory step x.begun (x.history ++ c ∷ [])
      run_after = subst (λ (b : S). IsHistory step b (x.history ++ c ∷ [])) begun_is (subst (λ h. IsHistory step begun (h ++ c ∷ [])) saw_all run_seen)

      pub keeps_on : KeepsTo step seats (record { words = set s.words 1 ((slice_index s.words 1 + 1) % 2 ^ 64); homes = set s.homes 0 (some (Some c.left)); views = set s.views id after }) grown
      keeps_on =
          let fits : length x.history + 1 < 2 ^ 64 = (let few = tickets_few seats s x kept in omega (arith, kept.drawn)) in
          record {
            words = ap (λ ws. set ws 1 ((slice_index ws 1 + 1) % 2 ^ 64)) kept.words ∙ ap (λ n. x.tickets ∷ n ∷ []) (mod-eq_of_lt fits ∙ sym longer);
            run = run_after;
            known = All-push seats x.history c kept.known (subst (λ n. n < seats) (sym own) fits_before.accounts.0.within);
            few = kept.few;
            given = (let p = sum_by-put passes_of s.views id before after at in omega (arith, kept.given));
            drawn = (let p = sum_by-put drawn_by s.views id before after at in omega (arith, kept.drawn, longer));
            room = (let p = sum_by-put busy_by s.views id before after at in omega (arith, kept.room, longer));
            fits = fits_all;
            home = home_after;
          }

      pub own_after : calls_of number (seen ++ c ∷ []) ≡ mine ++ c ∷ []
      own_after = calls_of-own number seen c own ∙ ap (λ h. h ++ c ∷ []) (ap (calls_of number) saw_all ∙ fits_before.accounts.0.mine)

  -- the seat that has the turn, and the hall as the call left it, finishes the call
  pub finishes : (key : DeskKey S) (slots id number : ℕ) (begun : S) (mine seen : List (FinishedCall S C R)) (c : FinishedCall S C R) → c.pass ≡ number → step (left_by begun seen) c.call c.reply c.left
      → Allows (Keeps step key) slots id (pass begun number mine seen Turn, (0, Some c.left) ∷ []) 1 (λ n. (n + 1) % 2 ^ 64) (Finishes step (c ∷ []) (pass begun number mine seen Turn, (0, Some c.left) ∷ []))
  finishes key slots id number begun mine seen c own steps s keeping long at fits =
      let x = keeping.0 in let kept = keeping.1 in (
        pass begun number (mine ++ c ∷ []) (seen ++ c ∷ []) Idle,
        gives,
        tt,
        (grown key.seats s x kept id number begun mine seen at c own, keeps_on key.seats s x kept id number begun mine seen at c own steps, keeping.2),
        record {
          is = refl;
          own = (own_after key.seats s x kept id number begun mine seen at c own steps, tt);
          run = (run_seen key.seats s x kept id number begun mine seen at c own steps, tt);
        },
      )

  -- what a pass's seat knows once its call is finished
  pub own_finished : (finished : List (FinishedCall S C R)) (old new : Holds S C R) (begun : S) (number : ℕ) (mine seen : List (FinishedCall S C R)) → old.0 ≡ pass begun number mine seen Turn
      → Finished step finished old new → calls_of number (seen ++ finished) ≡ mine ++ finished
  own_finished finished old new begun number mine seen is does =
      let P : View S C R → Type 0 = λ v. AllByRecursion (λ a. calls_of a.number (v.seen ++ finished) ≡ a.mine ++ finished) v.accounts in
      let all : P (pass begun number mine seen Turn) = subst P is does.own in
      all.0

  pub run_finished : (finished : List (FinishedCall S C R)) (old new : Holds S C R) (begun : S) (number : ℕ) (mine seen : List (FinishedCall S C R)) → old.0 ≡ pass begun number mine seen Turn
      → Finished step finished old new → IsHistory step begun (seen ++ finished)
  run_finished finished old new begun number mine seen is does =
      let P : View S C R → Type 0 = λ v. AllByRecursion (λ a. IsHistory step a.begun (v.seen ++ finished)) v.accounts in
      let all : P (pass begun number mine seen Turn) = subst P is does.run in
      all.0
