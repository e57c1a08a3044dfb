-- Seats that are divided off, and seats that are taken in.
use Rattle.std.specs.Prelude.{◌≡◌, ℕ, ◌+◌, List, [], ◌∷◌, ◌++◌, length, set}
use Rattle.std.specs.Prelude.{Option as Maybe}
use Rattle.std.specs.List.{AllByRecursion}
use Rattle.std.proofs.Common.{◌≢◌, refl, sym, ap, ◌∙◌, subst, inl, inr, ⊎_elim, length-set, arith}
use mathlib.Core.Option.{some}
use lib.ListN.{get_elem?}
use Rattle.atomic_table.specs.Table.{State, Splits}
use Rattle.atomic_table.proofs.Lists.{at_set, at_longer, set_else}
use Rattle.pana_turn.specs.declared.finished_call.FinishedCall.{FinishedCall}
use Rattle.pana_turn.specs.declared.view.Account.{Account}
use Rattle.pana_turn.specs.declared.view.Stage.{Stage}
use Rattle.pana_turn.specs.declared.view.Stage.TheVariants.{Idle, Tested, Drawn, Turn}
use Rattle.pana_turn.specs.declared.view.View.{View}
use Rattle.pana_turn.specs.Rule.{Course, DeskKey, IsAccountOf, FitsStage, Fits, IsHome, KeepsTo, Keeps, drawn_by, busy_by, passes_of}
use Rattle.pana_turn.specs.inner.Views.{view, dealt, kept, noted}
use Rattle.pana_turn.proofs.Histories.{prefix_nil}
use Rattle.pana_turn.proofs.Seats.{sum_by-put, sum_by-push, at_pushed}
use Rattle.pana_turn.proofs.Accounts.{all_along, all_both, account_beside}
use Rattle.pana_turn.proofs.Looking.{other_seat}
use Rattle.pana_turn.proofs.Tables.{change_at, change_here}

module _ {S C R : Type 0} where
  -- the stage of a seat doesn't ask who speaks for a pass
  stage_beside : (x : Course S C R) (speaker : ℕ → ℕ) (j : ℕ) (seen : List (FinishedCall S C R)) (stage : Stage) → FitsStage x j seen stage
      → FitsStage (record { begun = x.begun; history = x.history; tickets = x.tickets; speaker = speaker; holder = x.holder }) j seen stage
  stage_beside x speaker j seen Idle fits = tt
  stage_beside x speaker j seen Tested fits = tt
  stage_beside x speaker j seen (Drawn ticket) fits = fits
  stage_beside x speaker j seen Turn fits = fits

module _ {S C R : Type 0} {step : S → C → R → S → Type 0} where
  module _ (seats : ℕ) (s : State (Maybe S) (View S C R)) (x : Course S C R) (keeping : KeepsTo step seats s x) where
    -- the course where another seat speaks for the pass
    abbrev spoken : ℕ → ℕ → (Course S C R)
    spoken number seat = record { begun = x.begun; history = x.history; tickets = x.tickets; speaker = change_at x.speaker number seat; holder = x.holder }

    -- a seat with accounts of other passes alone
    pub fits_beside : (number seat j : ℕ) (u : View S C R) → AllByRecursion (λ a. a.number ≢ number) u.accounts → Fits seats x j u → Fits seats (spoken number seat) j u
    fits_beside number seat j u others fits =
        record {
          seen = fits.seen;
          met = fits.met;
          accounts = all_both (λ a. a.number ≢ number) (IsAccountOf seats x j) (IsAccountOf seats (spoken number seat) j) (λ a not is. account_beside seats x j number seat a not is) u.accounts others
              fits.accounts;
          stage = stage_beside x (change_at x.speaker number seat) j u.seen u.stage fits.stage;
          busy = fits.busy;
        }

    -- another seat has no account of a pass that this one speaks for
    pub others_of : (number id j : ℕ) → x.speaker number ≡ id → j ≢ id → (accounts : List (Account S C R)) → AllByRecursion (IsAccountOf seats x j) accounts → AllByRecursion (λ a. a.number ≢ number) accounts
    others_of number id j speaks other accounts all =
        all_along (IsAccountOf seats x j) (λ a. a.number ≢ number) (λ a is same. other (sym is.speaker ∙ ap x.speaker same ∙ speaks)) accounts all

    module _ (id : ℕ) (v : View S C R) (at : get_elem? s.views id ≡ some v) (idle : v.stage ≡ Idle) where
      no_turn : v.stage ≡ Turn → ⊥
      no_turn is = let odd : Idle ≡ Turn = sym idle ∙ is in absurd (cc)

      -- the hall stays where it is, where idle seats change and come
      home_divided : (left right : View S C R) → left.stage ≡ Idle → right.stage ≡ Idle → IsHome x s.homes (set s.views id left ++ right ∷ [])
      home_divided left right left_idle right_idle =
          elim keeping.home [
            | inl h ↦ inl (
              h.0,
              λ j u there turn. ⊎_elim
                  (λ t. ⊎_elim (λ r. let odd : Idle ≡ Turn = sym left_idle ∙ ap (λ y. y.stage) r.1 ∙ turn in absurd (cc)) (λ r. h.1 j u r.1 turn) (at_set s.views id j left u t.0))
                  (λ t. let odd : Idle ≡ Turn = sym right_idle ∙ ap (λ y. y.stage) t.1 ∙ turn in absurd (cc))
                  (at_pushed (set s.views id left) right u j there),
            )
            | inr g ↦
                let h = g.1 in
                inr (g.0, (h.0, h.1, at_longer (set s.views id left) (right ∷ []) h.0 h.1 (set_else s.views id h.0 left (other_seat s id v at h.0 h.1 (h.2, h.3) no_turn) ∙ h.2), h.3))
          ]

      -- a note is divided off
      pub divides_note : KeepsTo step seats (record { words = s.words; homes = s.homes; views = set s.views id v ++ noted v ∷ [] }) x
      divides_note =
          let fits = keeping.fits id v at in
          let fits_note : (j : ℕ) → Fits seats x j (noted v) = λ j. record { seen = fits.seen; met = prefix_nil x.history; accounts = tt; stage = tt; busy = omega arith } in
          record {
            words = keeping.words;
            run = keeping.run;
            known = keeping.known;
            few = keeping.few;
            given = (let p = sum_by-put passes_of s.views id v v at in omega (arith, keeping.given, sum_by-push passes_of (set s.views id v) (noted v)));
            drawn = (let p = sum_by-put drawn_by s.views id v v at in omega (arith, keeping.drawn, sum_by-push drawn_by (set s.views id v) (noted v)));
            room = (let p = sum_by-put busy_by s.views id v v at in omega (arith, keeping.room, sum_by-push busy_by (set s.views id v) (noted v)));
            fits = (λ j u there. ⊎_elim
                (λ t. ⊎_elim (λ r. let P : ℕ → (View S C R) → Type 0 = λ i y. Fits seats x i y in subst (λ i. P i u) (sym r.0) (subst (λ y. P id y) r.1 fits)) (λ r. keeping.fits j u r.1) (at_set s.views id j v u t.0))
                (λ t. subst (Fits seats x j) t.1 (fits_note j))
                (at_pushed (set s.views id v) (noted v) u j there));
            home = home_divided v (noted v) idle refl;
          }

      -- a pass's seat is divided off
      module _ (a : Account S C R) (rest : List (Account S C R)) (are : v.accounts ≡ a ∷ rest) (others : AllByRecursion (λ b. b.number ≢ a.number) rest) where
        abbrev left : (View S C R)
        left = view rest v.seen v.met v.stage

        abbrev right : (View S C R)
        right = view (a ∷ []) v.seen [] Idle

        accounts_before : AllByRecursion (IsAccountOf seats x id) (a ∷ rest)
        accounts_before = subst (AllByRecursion (IsAccountOf seats x id)) are ((keeping.fits id v at).accounts)

        fits_left : Fits seats (spoken a.number (length s.views)) id left
        fits_left =
            let fits = keeping.fits id v at in
            let free : busy_by v ≡ 0 = ap Rattle.pana_turn.specs.Rule.busy_at idle in
            fits_beside a.number (length s.views) id left others (record { seen = fits.seen; met = fits.met; accounts = accounts_before.1; stage = fits.stage; busy = omega (arith, free) })

        fits_right : Fits seats (spoken a.number (length s.views)) (length s.views) right
        fits_right =
            let fits = keeping.fits id v at in
            let is = accounts_before.0 in
            record {
              seen = fits.seen;
              met = prefix_nil x.history;
              accounts = (record { within = is.within; begun = is.begun; speaker = change_here x.speaker a.number (length s.views) a.number refl; mine = is.mine; seen = is.seen }, tt);
              stage = tt;
              busy = omega arith;
            }

        fits_else : (j : ℕ) (u : View S C R) → j ≢ id → get_elem? s.views j ≡ some u → Fits seats (spoken a.number (length s.views)) j u
        fits_else j u other there =
            let fits = keeping.fits j u there in
            fits_beside a.number (length s.views) j u (others_of a.number id j accounts_before.0.speaker other u.accounts fits.accounts) fits

        count_is : length v.accounts ≡ length rest + 1
        count_is = ap length are ∙ (let p : length (a ∷ rest) ≡ length rest + 1 = omega arith in p)

        pub divides_pass : KeepsTo step seats (record { words = s.words; homes = s.homes; views = set s.views id left ++ right ∷ [] }) (spoken a.number (length s.views))
        divides_pass =
            record {
              words = keeping.words;
              run = keeping.run;
              known = keeping.known;
              few = keeping.few;
              given = (let p = sum_by-put passes_of s.views id v left at in omega (arith, keeping.given, count_is, sum_by-push passes_of (set s.views id left) right));
              drawn = (let p = sum_by-put drawn_by s.views id v left at in omega (arith, keeping.drawn, sum_by-push drawn_by (set s.views id left) right));
              room = (let p = sum_by-put busy_by s.views id v left at in omega (arith, keeping.room, sum_by-push busy_by (set s.views id left) right));
              fits = (λ j u there. ⊎_elim
                  (λ t. ⊎_elim
                  (λ r. let P : ℕ → (View S C R) → Type 0 = λ i y. Fits seats (spoken a.number (length s.views)) i y in subst (λ i. P i u) (sym r.0) (subst (λ y. P id y) r.1 fits_left))
                  (λ r. fits_else j u r.0 r.1)
                  (at_set s.views id j left u t.0))
                  (λ t. let P : ℕ → (View S C R) → Type 0 = λ i y. Fits seats (spoken a.number (length s.views)) i y in
                  subst (λ i. P i u) (sym (t.0 ∙ length-set s.views id left)) (subst (λ y. P (length s.views) y) t.1 fits_right))
                  (at_pushed (set s.views id left) right u j there));
              home = home_divided left right idle refl;
            }

  pub notes : (key : DeskKey S) (id : ℕ) (v : View S C R) → v.stage ≡ Idle → Splits (Keeps step key) id v v (noted v)
  notes key id v idle s keeps at = (keeps.0, divides_note key.seats s keeps.0 keeps.1 id v at idle, keeps.2)

  pub deals : (key : DeskKey S) (id : ℕ) (a : Account S C R) (rest : List (Account S C R)) (seen met : List (FinishedCall S C R)) → AllByRecursion (λ b. b.number ≢ a.number) rest
      → Splits (Keeps step key) id (view (a ∷ rest) seen met Idle) (kept (view (a ∷ rest) seen met Idle)) (dealt (view (a ∷ rest) seen met Idle))
  deals key id a rest seen met others s keeps at =
      (spoken key.seats s keeps.0 keeps.1 a.number (length s.views), divides_pass key.seats s keeps.0 keeps.1 id (view (a ∷ rest) seen met Idle) at refl a rest refl others, keeps.2)
