-- Steps that move the words: a ticket is drawn, and a call is finished.
use Rattle.std.specs.Prelude.{◌≡◌, ℕ, ◌+◌, ◌%◌, ◌^◌, ◌<◌, ◌≤◌, List, [], ◌∷◌, length, set, slice_index}
use Rattle.std.specs.Prelude.{Option as Maybe}
use Rattle.std.proofs.Common.{refl, sym, ap, ◌∙◌, subst, inl, inr, ⊎_elim, arith}
use Rattle.std.proofs.Math.Nat.{mod-eq_of_lt}
use mathlib.Core.Option.{some}
use lib.ListN.{get_elem?}
use Rattle.atomic_table.specs.Table.{State, keeps, Allows}
use Rattle.atomic_table.proofs.Lists.{at_set, set_else}
use Rattle.pana_turn.specs.declared.finished_call.FinishedCall.{FinishedCall}
use Rattle.pana_turn.specs.declared.view.Stage.{Stage}
use Rattle.pana_turn.specs.declared.view.Stage.TheVariants.{Idle, Tested, Drawn, Turn}
use Rattle.pana_turn.specs.declared.view.View.{View}
use Rattle.pana_turn.specs.Rule.{Course, DeskKey, IsAccountOf, FitsStage, Fits, IsHome, KeepsTo, Keeps, drawn_at, drawn_by, busy_at, busy_by, passes_of}
use Rattle.pana_turn.specs.inner.Views.{view}
use Rattle.pana_turn.specs.inner.Steps.{Holds, Draws}
use Rattle.pana_turn.proofs.Seats.{sum_by-put, sum_by-below}
use Rattle.pana_turn.proofs.Accounts.{all_along, same_account}
use Rattle.pana_turn.proofs.Looking.{other_seat}
use Rattle.pana_turn.proofs.Tables.{change_at, change_here, change_else}

drawn_below_busy : (stage : Stage) → drawn_at stage ≤ busy_at stage
drawn_below_busy Idle = omega arith
drawn_below_busy Tested = omega arith
drawn_below_busy (Drawn ticket) = omega arith
drawn_below_busy Turn = omega arith

module _ {S C R : Type 0} {step : S → C → R → S → Type 0} where
  module _ (seats : ℕ) (s : State (Maybe S) (View S C R)) (x : Course S C R) (kept : KeepsTo step seats s x) where
    -- the words are far from the greatest number
    pub tickets_few : x.tickets ≤ 4611686018427387904 + 64
    tickets_few =
        let few = sum_by-below drawn_by busy_by s.views (λ j u at. drawn_below_busy u.stage) in
        omega (arith, kept.drawn, kept.room, kept.few)

    -- no more calls are finished than tickets drawn
    drawn_few : length x.history ≤ x.tickets
    drawn_few = omega (arith, kept.drawn)

    -- the course after a ticket is drawn
    abbrev drawn_course : ℕ → (Course S C R)
    drawn_course id = record { begun = x.begun; history = x.history; tickets = x.tickets + 1; speaker = x.speaker; holder = change_at x.holder x.tickets id }

    -- a ticket that was drawn before keeps its holder
    stage_after_draw : (id j : ℕ) (seen : List (FinishedCall S C R)) (stage : Stage) → FitsStage x j seen stage → FitsStage (drawn_course id) j seen stage
    stage_after_draw id j seen Idle fits = tt
    stage_after_draw id j seen Tested fits = tt
    stage_after_draw id j seen (Drawn ticket) fits = (change_else x.holder x.tickets id ticket (λ e. omega (arith, fits.2, e)) ∙ fits.0, fits.1, omega (arith, fits.2))
    stage_after_draw id j seen Turn fits = (change_else x.holder x.tickets id (length x.history) (λ e. omega (arith, fits.1, e)) ∙ fits.0, omega (arith, fits.1), fits.2)

    fits_after_draw : (id j : ℕ) (u : View S C R) → Fits seats x j u → Fits seats (drawn_course id) j u
    fits_after_draw id j u fits =
        record {
          seen = fits.seen;
          met = fits.met;
          accounts = all_along (IsAccountOf seats x j) (IsAccountOf seats (drawn_course id) j) (same_account seats x j (x.tickets + 1) (change_at x.holder x.tickets id)) u.accounts fits.accounts;
          stage = stage_after_draw id j u.seen u.stage fits.stage;
          busy = fits.busy;
        }

    module _ (id : ℕ) (v : View S C R) (at : get_elem? s.views id ≡ some v) (tested : v.stage ≡ Tested) where
      abbrev with_ticket : (View S C R)
      with_ticket = view v.accounts v.seen v.met (Drawn x.tickets)

      fits_drawn : (j : ℕ) (u : View S C R) → get_elem? (set s.views id with_ticket) j ≡ some u → Fits seats (drawn_course id) j u
      fits_drawn j u there =
          let before = fits_after_draw id id v (kept.fits id v at) in
          let busy : busy_at v.stage ≡ 1 = ap busy_at tested in
          let here : Fits seats (drawn_course id) id with_ticket = record { seen = before.seen; met = before.met; accounts = before.accounts; stage = (change_here x.holder x.tickets id x.tickets refl, drawn_few, omega arith); busy = omega (arith, before.busy, busy) } in
          ⊎_elim
          (λ t. let P : ℕ → (View S C R) → Type 0 = λ i y. Fits seats (drawn_course id) i y in subst (λ i. P i u) (sym t.0) (subst (λ y. P id y) t.1 here))
          (λ t. fits_after_draw id j u (kept.fits j u t.1))
          (at_set s.views id j with_ticket u there)

      no_turn : v.stage ≡ Turn → ⊥
      no_turn is = let odd : Tested ≡ Turn = sym tested ∙ is in absurd (cc)

      home_drawn : IsHome (drawn_course id) s.homes (set s.views id with_ticket)
      home_drawn =
          elim kept.home [
            | inl h ↦ inl (h.0, λ j u there is. ⊎_elim (λ t. let odd : Drawn x.tickets ≡ Turn = ap (λ y. y.stage) t.1 ∙ is in absurd (cc)) (λ t. h.1 j u t.1 is) (at_set s.views id j with_ticket u there))
            | inr g ↦ let h = g.1 in inr (g.0, (h.0, h.1, set_else s.views id h.0 with_ticket (other_seat s id v at h.0 h.1 (h.2, h.3) no_turn) ∙ h.2, h.3))
          ]

      pub ticket_drawn : KeepsTo step seats (record { words = set s.words 0 ((slice_index s.words 0 + 1) % 2 ^ 64); homes = s.homes; views = set s.views id with_ticket }) (drawn_course id)
      ticket_drawn =
          let found : slice_index s.words 0 ≡ x.tickets = ap (λ ws. slice_index ws 0) kept.words in
          let drawn : drawn_at v.stage ≡ 0 = ap drawn_at tested in
          let busy : busy_at v.stage ≡ 1 = ap busy_at tested in
          let fits : x.tickets + 1 < 2 ^ 64 = (let few = tickets_few in omega arith) in
          record {
            words = ap (λ ws. set ws 0 ((slice_index ws 0 + 1) % 2 ^ 64)) kept.words ∙ ap (λ n. n ∷ length x.history ∷ []) (mod-eq_of_lt fits);
            run = kept.run;
            known = kept.known;
            few = kept.few;
            given = (let p = sum_by-put passes_of s.views id v with_ticket at in omega (arith, kept.given));
            drawn = (let p = sum_by-put drawn_by s.views id v with_ticket at in omega (arith, kept.drawn, drawn));
            room = (let p = sum_by-put busy_by s.views id v with_ticket at in omega (arith, kept.room, busy));
            fits = fits_drawn;
            home = home_drawn;
          }

  -- a seat that passed the test draws a ticket
  pub draws : (key : DeskKey S) (slots id : ℕ) (me : Holds S C R) → me.0.stage ≡ Tested → Allows (Keeps step key) slots id me 0 (λ n. (n + 1) % 2 ^ 64) (Draws me)
  draws key slots id me tested s keeping long at fits =
      let x = keeping.0 in let kept = keeping.1 in let v = me.0 in
      let found : slice_index s.words 0 ≡ x.tickets = ap (λ ws. slice_index ws 0) kept.words in (
        view v.accounts v.seen v.met (Drawn x.tickets),
        keeps,
        tt,
        (drawn_course key.seats s x kept id, ticket_drawn key.seats s x kept id v at tested, keeping.2),
        ap (λ ticket. (view v.accounts v.seen v.met (Drawn ticket), me.1)) (sym found),
      )
