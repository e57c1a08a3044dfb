-- Loads of word 1: a seat looks at how many calls are finished.
use Rattle.std.specs.Prelude.{◌≡◌, ℕ, ◌+◌, ◌<◌, ◌≤◌, List, [], ◌∷◌, length, set, slice_index, sum_by, Some}
use Rattle.std.specs.Prelude.{Option as Maybe}
use Rattle.std.proofs.Common.{◌≢◌, refl, sym, ap, ◌∙◌, subst, inl, inr, ⊎_elim, lt_of_not-le, arith}
use Rattle.std.specs.List.{AllByRecursion}
use mathlib.Core.Option.{Option, some, none, some-injective}
use lib.ListN.{get_elem?}
use native.Mathlib.Decide.{dec_le, ℕ_discrete}
use Rattle.atomic_table.specs.Table.{State, keeps, takes, Allows}
use Rattle.atomic_table.proofs.Lists.{at_set, set_else}
use Rattle.pana_turn.specs.declared.finished_call.FinishedCall.{FinishedCall}
use Rattle.pana_turn.specs.declared.view.Account.{Account}
use Rattle.pana_turn.specs.declared.view.Stage.{Stage}
use Rattle.pana_turn.specs.declared.view.Stage.TheVariants.{Idle, Tested, Drawn, Turn}
use Rattle.pana_turn.specs.declared.view.View.{View}
use Rattle.pana_turn.specs.History.{IsHistory, calls_of, left_by}
use Rattle.pana_turn.specs.Rule.{Course, IsAccountOf, FitsStage, Fits, IsHome, DeskKey, KeepsTo, Keeps, drawn_at, drawn_by, busy_at, busy_by, passes_of}
use Rattle.pana_turn.specs.inner.Views.{view, account}
use Rattle.pana_turn.specs.inner.Steps.{Holds, Looked, Glances, Tests, Awaits, ticket_of}
use Rattle.pana_turn.proofs.Histories.{prefix_self, prefix_nil}
use Rattle.pana_turn.proofs.Seats.{sum_by-put, sum_by-below, at_put}

not_turn : (stage other : Stage) → stage ≡ other → (other ≡ Turn → ⊥) → stage ≡ Turn → ⊥
not_turn stage other is not odd = not (sym is ∙ odd)

idle_is_no_turn : Idle ≡ Turn → ⊥
idle_is_no_turn odd = absurd (cc)

tested_is_no_turn : Tested ≡ Turn → ⊥
tested_is_no_turn odd = absurd (cc)

drawn_is_no_turn : (ticket : ℕ) → Drawn ticket ≡ Turn → ⊥
drawn_is_no_turn ticket odd = absurd (cc)

module _ {S C R : Type 0} where
  -- who has the turn is another seat than one that hasn't
  pub other_seat : (s : State (Maybe S) (View S C R)) (id : ℕ) (v : View S C R) → get_elem? s.views id ≡ some v → (j : ℕ) (u : View S C R) → (get_elem? s.views j ≡ some u) × (u.stage ≡ Turn)
      → (v.stage ≡ Turn → ⊥) → j ≢ id
  other_seat s id v at j u there not_before same =
      let here : get_elem? s.views id ≡ some u = ap (λ i. get_elem? s.views i) (sym same) ∙ there.0 in
      not_before (ap (λ y. y.stage) (some-injective v u (sym at ∙ here)) ∙ there.1)

module _ {S C R : Type 0} {step : S → C → R → S → Type 0} where
  module _ (seats : ℕ) (s : State (Maybe S) (View S C R)) (x : Course S C R) (kept : KeepsTo step seats s x) (id : ℕ) (v : View S C R) (at : get_elem? s.views id ≡ some v) where
    -- what was found is the number of finished calls
    pub found_is : slice_index s.words 1 ≡ length x.history
    found_is = ap (λ ws. slice_index ws 1) kept.words

    account_is : (begun : S) (number : ℕ) (mine past : List (FinishedCall S C R)) → v.accounts ≡ account begun number mine past ∷ [] → IsAccountOf seats x id (account begun number mine past)
    account_is begun number mine past is =
        let P : List (Account S C R) → Type 0 = λ accounts. AllByRecursion (IsAccountOf seats x id) accounts in
        let all : P (account begun number mine past ∷ []) = subst P is ((kept.fits id v at).accounts) in
        all.0

    pub begun_is : (begun : S) (number : ℕ) (mine past : List (FinishedCall S C R)) → v.accounts ≡ account begun number mine past ∷ [] → begun ≡ x.begun
    begun_is begun number mine past is = (account_is begun number mine past is).begun

    own_calls_are : (begun : S) (number : ℕ) (mine past : List (FinishedCall S C R)) → v.accounts ≡ account begun number mine past ∷ [] → calls_of number x.history ≡ mine
    own_calls_are begun number mine past is = (account_is begun number mine past is).mine

    run_is : (begun : S) (number : ℕ) (mine past : List (FinishedCall S C R)) → v.accounts ≡ account begun number mine past ∷ [] → IsHistory step begun x.history
    run_is begun number mine past is = subst (λ (b : S). IsHistory step b x.history) (sym (begun_is begun number mine past is)) kept.run

    -- the seat has seen the whole history
    pub looked : (stage : Stage) → Looked step v (slice_index s.words 1) (view v.accounts x.history [] stage) stage
    looked stage =
        let fits = kept.fits id v at in
        record {
          long = sym found_is;
          run = run_is;
          seen = fits.seen;
          met = fits.met;
          own = own_calls_are;
          is = refl;
        }

    -- where the seat's ticket has come and it hasn't the turn yet, the hall is in its slot
    pub is_in : x.holder (length x.history) ≡ id → (v.stage ≡ Turn → ⊥) → s.homes ≡ some (Some (left_by x.begun x.history)) ∷ []
    is_in holds not_before =
        elim kept.home [
          | inl h ↦ h.0
          | inr g ↦
              let h = g.1 in
              let stands : FitsStage x h.0 h.1.seen Turn = (let P : Stage → Type 0 = λ stage. FitsStage x h.0 h.1.seen stage in subst P h.3 ((kept.fits h.0 h.1 h.2).stage)) in
              absurd (other_seat s id v at h.0 h.1 (h.2, h.3) not_before (sym stands.0 ∙ holds))
        ]

    module _ (stage : Stage) where
      -- where the turn is neither won nor given up, the hall stays where it is
      pub stays_home : (stage ≡ Turn → ⊥) → (v.stage ≡ Turn → ⊥) → IsHome x s.homes (set s.views id (view v.accounts x.history [] stage))
      stays_home not_now not_before =
          elim kept.home [
            | inl h ↦ inl (h.0, λ j u there is. ⊎_elim (λ t. not_now (ap (λ y. y.stage) t.1 ∙ is)) (λ t. h.1 j u t.1 is) (at_set s.views id j (view v.accounts x.history [] stage) u there))
            | inr h ↦ inr (h.0, (h.1.0, h.1.1, set_else s.views id h.1.0 (view v.accounts x.history [] stage) (other_seat s id v at h.1.0 h.1.1 (h.1.2, h.1.3) not_before) ∙ h.1.2, h.1.3))
          ]

      -- it has, and its stage is another
      module _ (stands : FitsStage x id x.history stage) (busy : busy_at stage ≤ length v.accounts) where
        fits_here : Fits seats x id (view v.accounts x.history [] stage)
        fits_here = let fits = kept.fits id v at in record { seen = prefix_self x.history; met = prefix_nil x.history; accounts = fits.accounts; stage = stands; busy = busy }

        fits_all : (j : ℕ) (u : View S C R) → get_elem? (set s.views id (view v.accounts x.history [] stage)) j ≡ some u → Fits seats x j u
        fits_all j u there =
            ⊎_elim
            (λ t. let P : ℕ → (View S C R) → Type 0 = λ i y. Fits seats x i y in subst (λ i. P i u) (sym t.0) (subst (λ y. P id y) t.1 fits_here))
            (λ t. kept.fits j u t.1)
            (at_set s.views id j (view v.accounts x.history [] stage) u there)

        -- no more calls are on their way than there are passes
        pub few_busy : sum_by busy_by s.views + busy_at stage ≤ seats + busy_at v.stage
        few_busy =
            let y : View S C R = view v.accounts x.history [] stage in
            let below : sum_by busy_by (set s.views id y) ≤ sum_by passes_of (set s.views id y) = sum_by-below busy_by passes_of (set s.views id y) (λ j u there. (fits_all j u there).busy) in
            let p = sum_by-put busy_by s.views id v y at in
            let q = sum_by-put passes_of s.views id v y at in
            omega (arith, kept.given)

        module _ (same : drawn_at stage ≡ drawn_at v.stage) (room : length x.history + sum_by busy_by s.views + busy_at stage ≤ 4611686018427387904 + seats + busy_at v.stage) where
          pub goes_on : (homes : List (Option (Maybe S))) → IsHome x homes (set s.views id (view v.accounts x.history [] stage))
              → KeepsTo step seats (record { words = set s.words 1 (slice_index s.words 1); homes = homes; views = set s.views id (view v.accounts x.history [] stage) }) x
          goes_on homes home =
              let y : View S C R = view v.accounts x.history [] stage in
              record {
                words = ap (λ ws. set ws 1 (slice_index ws 1)) kept.words;
                run = kept.run;
                known = kept.known;
                few = kept.few;
                given = (let p = sum_by-put passes_of s.views id v y at in omega (arith, kept.given));
                drawn = (let p = sum_by-put drawn_by s.views id v y at in omega (arith, kept.drawn, same));
                room = (let p = sum_by-put busy_by s.views id v y at in omega (arith, room));
                fits = fits_all;
                home = home;
              }

  -- a pass that is idle, or a note, glances
  pub glances : (key : DeskKey S) (slots id : ℕ) (me : Holds S C R) → me.0.stage ≡ Idle → Allows (Keeps step key) slots id me 1 (λ n. n) (Glances step me)
  glances key slots id me idle s keeping long at fits =
      let x = keeping.0 in let kept = keeping.1 in let v = me.0 in
      let drawn : 0 ≡ drawn_at v.stage = sym (ap drawn_at idle) in
      let free : busy_at v.stage ≡ 0 = ap busy_at idle in (
        view v.accounts x.history [] Idle,
        keeps,
        tt,
        (x, goes_on key.seats s x kept id v at Idle tt (omega arith) drawn (omega (arith, kept.room, free)) s.homes (stays_home key.seats s x kept id v at Idle idle_is_no_turn (not_turn v.stage Idle idle idle_is_no_turn)), keeping.2),
        (looked key.seats s x kept id v at Idle, refl),
      )

  -- the test before a ticket is drawn
  pub tests : (key : DeskKey S) (slots id : ℕ) (me : Holds S C R) → me.0.stage ≡ Idle → length me.0.accounts ≡ 1 → Allows (Keeps step key) slots id me 1 (λ n. n) (Tests step me)
  tests key slots id me idle alone s keeping long at fits =
      let x = keeping.0 in let kept = keeping.1 in let v = me.0 in
      let drawn : 0 ≡ drawn_at v.stage = sym (ap drawn_at idle) in
      let free : busy_at v.stage ≡ 0 = ap busy_at idle in
      let before = not_turn v.stage Idle idle idle_is_no_turn in
      elim (dec_le 4611686018427387904 (slice_index s.words 1)) [
        | yes many ↦ (
          view v.accounts x.history [] Idle,
          keeps,
          tt,
          (x, goes_on key.seats s x kept id v at Idle tt (omega arith) drawn (omega (arith, kept.room, free)) s.homes (stays_home key.seats s x kept id v at Idle idle_is_no_turn before), keeping.2),
          ((λ few. absurd (omega arith)), (λ _. looked key.seats s x kept id v at Idle), refl),
        )
        | no few ↦
            let below : slice_index s.words 1 < 4611686018427387904 = lt_of_not-le few in
            let found = found_is key.seats s x kept id v at in
            let one : 1 ≤ length v.accounts = omega arith in
            let busy = few_busy key.seats s x kept id v at Tested tt one in (
              view v.accounts x.history [] Tested,
              keeps,
              tt,
              (x, goes_on key.seats s x kept id v at Tested tt one drawn (omega arith) s.homes (stays_home key.seats s x kept id v at Tested tested_is_no_turn before), keeping.2),
              ((λ _. looked key.seats s x kept id v at Tested), (λ many. absurd (omega arith)), refl),
            )
      ]

  -- a seat with a ticket waits: where as many calls are finished, it has the turn, and takes the hall
  pub awaits : (key : DeskKey S) (slots id : ℕ) (me : Holds S C R) → me.0.stage ≡ Drawn (ticket_of me.0.stage) → 1 ≤ length me.0.accounts → Allows (Keeps step key) slots id me 1 (λ n. n) (Awaits step me)
  awaits key slots id me drawn one s keeping long at fits =
      let x = keeping.0 in let kept = keeping.1 in let v = me.0 in
      let ticket : ℕ = ticket_of v.stage in
      let before : drawn_at v.stage ≡ 1 = ap drawn_at drawn in
      let busy : busy_at v.stage ≡ 1 = ap busy_at drawn in
      let stands : FitsStage x id v.seen (Drawn (ticket_of v.stage)) = (let P : Stage → Type 0 = λ stage. FitsStage x id v.seen stage in subst P drawn ((kept.fits id v at).stage)) in
      let no_turn = not_turn v.stage (Drawn ticket) drawn (drawn_is_no_turn ticket) in
      elim (ℕ_discrete (slice_index s.words 1) (ticket_of v.stage)) [
        | yes come ↦
            let here : length x.history ≡ ticket_of v.stage = sym (found_is key.seats s x kept id v at) ∙ come in
            let holds : x.holder (length x.history) ≡ id = ap x.holder here ∙ stands.0 in
            let drawn_before : length x.history < x.tickets = omega (arith, stands.2, here) in
            let home = is_in key.seats s x kept id v at holds no_turn in (
              view v.accounts x.history [] Turn,
              takes 0 (Some (left_by x.begun x.history)),
              ap (λ hs. get_elem? hs 0) home,
              (
                x,
                goes_on key.seats s x kept id v at Turn (holds, drawn_before, refl) one (sym before) (omega (arith, kept.room, busy)) (set s.homes 0 none)
                    (inr (ap (λ hs. set hs 0 none) home, (id, view v.accounts x.history [] Turn, at_put s.views id v (view v.accounts x.history [] Turn) at, refl))),
                keeping.2,
              ),
              (
                (λ _. (looked key.seats s x kept id v at Turn, (λ begun number mine past is. ap (λ b. (0, Some (left_by b x.history)) ∷ me.1) (sym (begun_is key.seats s x kept id v at begun number mine past is))))),
                (λ not. absurd (not come)),
              ),
            )
        | no early ↦ (
          view v.accounts x.history [] (Drawn (ticket_of v.stage)),
          keeps,
          tt,
          (
            x,
            goes_on key.seats s x kept id v at (Drawn (ticket_of v.stage)) stands one (sym before) (omega (arith, kept.room, busy)) s.homes
                (stays_home key.seats s x kept id v at (Drawn (ticket_of v.stage)) (drawn_is_no_turn (ticket_of v.stage)) no_turn),
            keeping.2,
          ),
          ((λ come. absurd (early come)), (λ _. (looked key.seats s x kept id v at (Drawn (ticket_of v.stage)), refl))),
        )
      ]
