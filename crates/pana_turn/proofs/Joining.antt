-- Seats that are taken in by another: of a note that is met, and of passes at the end.
use Rattle.std.specs.Prelude.{◌≡◌, ℕ, ◌+◌, List, [], ◌∷◌, ◌++◌, length, set}
use Rattle.std.specs.Prelude.{Option as Maybe}
use Rattle.std.proofs.Common.{◌≢◌, refl, sym, ap, ◌∙◌, subst, inl, inr, ⊎_elim, length-append, arith}
use mathlib.Core.Option.{some}
use lib.ListN.{get_elem?}
use Rattle.atomic_table.specs.Table.{State, Joins}
use Rattle.atomic_table.proofs.Lists.{at_set, set_else}
use Rattle.pana_turn.specs.declared.finished_call.FinishedCall.{FinishedCall}
use Rattle.pana_turn.specs.declared.view.Stage.TheVariants.{Idle, Turn}
use Rattle.pana_turn.specs.declared.view.View.{View}
use Rattle.pana_turn.specs.Rule.{Course, DeskKey, IsAccountOf, Fits, IsHome, KeepsTo, Keeps, drawn_at, drawn_by, busy_at, busy_by, passes_of}
use Rattle.pana_turn.specs.inner.Views.{view, account, pass, spent, informed, gathered}
use Rattle.pana_turn.proofs.Histories.{prefix_nil}
use Rattle.pana_turn.proofs.Seats.{sum_by-put}
use Rattle.pana_turn.proofs.Accounts.{all_joined}
use Rattle.pana_turn.proofs.Looking.{other_seat}
use Rattle.pana_turn.proofs.Tables.{change_at, change_here}
use Rattle.pana_turn.proofs.Dividing.{fits_beside, others_of}

module _ {S C R : Type 0} {step : S → C → R → S → Type 0} where
  module _ (seats : ℕ) (s : State (Maybe S) (View S C R)) (x : Course S C R) (keeping : KeepsTo step seats s x) (id : ℕ) (v : View S C R) (at : get_elem? s.views id ≡ some v) (idle : v.stage ≡ Idle)
      (other : ℕ) (w : View S C R) (apart : other ≡ id → ⊥) (both : View S C R) (there : get_elem? (set s.views id both) other ≡ some w) (idle_there : w.stage ≡ Idle) where
    -- the other seat was there before
    pub other_at : get_elem? s.views other ≡ some w
    other_at = sym (set_else s.views id other both apart) ∙ there

    no_turn : (u : View S C R) → u.stage ≡ Idle → u.stage ≡ Turn → ⊥
    no_turn u is turn = let odd : Idle ≡ Turn = sym is ∙ turn in absurd (cc)

    module _ (idle_both : both.stage ≡ Idle) (sum : length both.accounts ≡ length v.accounts + length w.accounts) (speaker : ℕ → ℕ) where
      abbrev joined : (Course S C R)
      joined = record { begun = x.begun; history = x.history; tickets = x.tickets; speaker = speaker; holder = x.holder }

      module _ (fits_both : Fits seats joined id both) (fits_else : (j : ℕ) (u : View S C R) → j ≢ id → j ≢ other → get_elem? s.views j ≡ some u → Fits seats joined j u) where
        fits_spent : (j : ℕ) → Fits seats joined j spent
        fits_spent j = record { seen = prefix_nil x.history; met = prefix_nil x.history; accounts = tt; stage = tt; busy = omega arith }

        fits_all : (j : ℕ) (u : View S C R) → get_elem? (set (set s.views id both) other spent) j ≡ some u → Fits seats joined j u
        fits_all j u at_j =
            ⊎_elim
            (λ t. subst (Fits seats joined j) t.1 (fits_spent j))
            (λ t. ⊎_elim
            (λ r. let P : ℕ → (View S C R) → Type 0 = λ i y. Fits seats joined i y in subst (λ i. P i u) (sym r.0) (subst (λ y. P id y) r.1 fits_both))
            (λ r. fits_else j u r.0 t.0 r.1)
            (at_set s.views id j both u t.1))
            (at_set (set s.views id both) other j spent u at_j)

        -- the hall stays where it is
        home_joined : IsHome x s.homes (set (set s.views id both) other spent)
        home_joined =
            elim keeping.home [
              | inl h ↦ inl (
                h.0,
                λ j u at_j turn. ⊎_elim
                    (λ t. let odd : Idle ≡ Turn = ap (λ y. y.stage) t.1 ∙ turn in absurd (cc))
                    (λ t. ⊎_elim (λ r. let odd : Idle ≡ Turn = sym idle_both ∙ ap (λ y. y.stage) r.1 ∙ turn in absurd (cc)) (λ r. h.1 j u r.1 turn) (at_set s.views id j both u t.1))
                    (at_set (set s.views id both) other j spent u at_j),
              )
              | inr g ↦
                  let h = g.1 in
                  inr (
                    g.0,
                    (
                      h.0,
                      h.1,
                      set_else (set s.views id both) other h.0 spent (other_seat s other w other_at h.0 h.1 (h.2, h.3) (no_turn w idle_there))
                          ∙ (set_else s.views id h.0 both (other_seat s id v at h.0 h.1 (h.2, h.3) (no_turn v idle)) ∙ h.2),
                      h.3,
                    ),
                  )
            ]

        drawn_none : (u : View S C R) → u.stage ≡ Idle → drawn_by u ≡ 0
        drawn_none u is = ap drawn_at is

        busy_none : (u : View S C R) → u.stage ≡ Idle → busy_by u ≡ 0
        busy_none u is = ap busy_at is

        pub takes_in : KeepsTo step seats (record { words = s.words; homes = s.homes; views = set (set s.views id both) other spent }) joined
        takes_in =
            record {
              words = keeping.words;
              run = keeping.run;
              known = keeping.known;
              few = keeping.few;
              given = (
                  let p = sum_by-put passes_of s.views id v both at in
                  let q = sum_by-put passes_of (set s.views id both) other w spent there in
                  omega (arith, keeping.given, sum)
                  );
              drawn = (
                  let p = sum_by-put drawn_by s.views id v both at in
                  let q = sum_by-put drawn_by (set s.views id both) other w spent there in
                  omega (arith, keeping.drawn, drawn_none v idle, drawn_none w idle_there, drawn_none both idle_both)
                  );
              room = (
                  let p = sum_by-put busy_by s.views id v both at in
                  let q = sum_by-put busy_by (set s.views id both) other w spent there in
                  omega (arith, keeping.room, busy_none v idle, busy_none w idle_there, busy_none both idle_both)
                  );
              fits = fits_all;
              home = home_joined;
            }

  -- a seat meets a note
  pub informs : (key : DeskKey S) (id other : ℕ) (v : View S C R) (past : List (FinishedCall S C R)) → v.stage ≡ Idle → Joins (Keeps step key) id v other (view [] past [] Idle) (informed v (view [] past [] Idle)) spent
  informs key id other v past idle s keeps at apart there =
      let x = keeps.0 in let keeping = keeps.1 in
      let w : View S C R = view [] past [] Idle in
      let both : View S C R = informed v w in
      let fits = keeping.fits id v at in
      let note = keeping.fits other w (other_at key.seats s x keeping id v at idle other w apart both there refl) in (
        x,
        takes_in key.seats s x keeping id v at idle other w apart both there refl idle (omega arith) x.speaker
            (record { seen = fits.seen; met = note.seen; accounts = fits.accounts; stage = fits.stage; busy = fits.busy })
            (λ j u not_id not_other at_j. keeping.fits j u at_j),
        keeps.2,
      )

  -- a seat takes in a pass
  pub gathers : (key : DeskKey S) (id other : ℕ) (v : View S C R) (begun : S) (number : ℕ) (mine past : List (FinishedCall S C R)) → v.stage ≡ Idle
      → Joins (Keeps step key) id v other (pass begun number mine past Idle) (gathered v (pass begun number mine past Idle)) spent
  gathers key id other v begun number mine past idle s keeps at apart there =
      let x = keeps.0 in let keeping = keeps.1 in
      let w : View S C R = pass begun number mine past Idle in
      let both : View S C R = gathered v w in
      let fits = keeping.fits id v at in
      let taken = keeping.fits other w (other_at key.seats s x keeping id v at idle other w apart both there refl) in
      let is = taken.accounts.0 in
      let back : id ≢ other = λ e. apart (sym e) in
      let beside = fits_beside key.seats s x keeping number id id v (others_of key.seats s x keeping number other id is.speaker back v.accounts fits.accounts) fits in
      let free : busy_by v ≡ 0 = ap busy_at idle in
      let long : length (v.accounts ++ account begun number mine past ∷ []) ≡ length v.accounts + 1 = length-append v.accounts (account begun number mine past ∷ []) in
      let last : IsAccountOf key.seats (record { begun = x.begun; history = x.history; tickets = x.tickets; speaker = change_at x.speaker number id; holder = x.holder }) id (account begun number mine past)
      = record { within = is.within; begun = is.begun; speaker = change_here x.speaker number id number refl; mine = is.mine; seen = taken.seen } in (
        record { begun = x.begun; history = x.history; tickets = x.tickets; speaker = change_at x.speaker number id; holder = x.holder },
        takes_in key.seats s x keeping id v at idle other w apart both there refl idle (omega (arith, long)) (change_at x.speaker number id)
            (record {
              seen = beside.seen;
              met = beside.met;
              accounts = all_joined (IsAccountOf key.seats (record { begun = x.begun; history = x.history; tickets = x.tickets; speaker = change_at x.speaker number id; holder = x.holder }) id) v.accounts (account begun number mine past ∷ [])
                  beside.accounts (last, tt);
              stage = beside.stage;
              busy = omega (arith, free);
            })
            (λ j u not_id not_other at_j.
            let fits_u = keeping.fits j u at_j in
            fits_beside key.seats s x keeping number id j u (others_of key.seats s x keeping number other j is.speaker not_other u.accounts fits_u.accounts) fits_u),
        keeps.2,
      )
