-- A new desk: its table, and how passes are dealt.
use Rattle.std.specs.Prelude.{◌≡◌, ℕ, zero, suc, ◌+◌, ◌-◌, ◌<◌, ◌≤◌, List, [], ◌∷◌, ◌++◌, map, Some}
use Rattle.std.specs.List.{AllByRecursion, range_with_len}
use Rattle.std.proofs.Common.{◌≢◌, refl, sym, ap, ◌∙◌, subst, inl, arith}
use Rattle.std.proofs.lemmas.List.{map-append}
use Rattle.std.proofs.lemmas.List.FromFn.{length-map-range_with_len}
use mathlib.Core.Option.{some, some-injective, some-ne-none}
use lib.ListN.{get_elem?}
use Rattle.atomic_table.specs.Seated.{TableId}
use Rattle.atomic_table.specs.Table.{opening, Splits}
use Rattle.pana_turn.specs.declared.finished_call.FinishedCall.{FinishedCall}
use Rattle.pana_turn.specs.declared.view.Account.{Account}
use Rattle.pana_turn.specs.declared.view.Stage.TheVariants.{Idle, Turn}
use Rattle.pana_turn.specs.declared.view.View.{View}
use Rattle.pana_turn.specs.Rule.{Course, DeskKey, IsAccountOf, Fits, Keeps}
use Rattle.pana_turn.specs.inner.Views.{view, first, new_account, accounts_from, kept, dealt}
use Rattle.pana_turn.specs.Passes.{DeskId, PassView, new_pass, new_passes}
use Rattle.pana_turn.proofs.Dividing.{deals}

range_more : (a n : ℕ) → a < n → range_with_len a (n - a) ≡ a ∷ range_with_len (a + 1) (n - (a + 1))
range_more a n less = let step : n - a ≡ suc (n - (a + 1)) = omega arith in ap (range_with_len a) step

-- what contracts see of a pass, of the desk with this table and key
abbrev pub pass_with : {S C R : Type 0} → TableId → DeskKey S → ℕ → List (FinishedCall S C R) → PassView S C R
pass_with table key number seen = record { desk = record { table = table; begun = key.begun }; number = number; seen = seen }

-- one number more
range_push : (a n : ℕ) → range_with_len a (suc n) ≡ range_with_len a n ++ (a + n) ∷ []
range_push a zero = ap (λ k. k ∷ []) (let e : a ≡ a + 0 = omega arith in e)
range_push a (suc n) = ap (λ ks. a ∷ ks) (range_push (a + 1) n ∙ ap (λ k. range_with_len (a + 1) n ++ k ∷ []) (let e : a + 1 + n ≡ a + suc n = omega arith in e))

module _ {S C R : Type 0} where
  -- the course of a new desk
  abbrev new_course : S → (Course S C R)
  new_course begun = record { begun = begun; history = []; tickets = 0; speaker = λ _. 0; holder = λ _. 0 }

module _ {S : Type 0} (C R : Type 0) where
  -- what holds of each number from a on holds of each new account
  numbered : (begun : S) (P : ℕ → Type 0) (a n : ℕ) → ((k : ℕ) → a ≤ k → k < a + n → P k) → AllByRecursion (λ b. P b.number) (map (new_account {C = C} {R = R} begun) (range_with_len a n))
  numbered begun P a zero each = tt
  numbered begun P a (suc n) each = (each a (omega arith) (omega arith), numbered begun P (a + 1) n (λ k low high. each k (omega arith) (omega arith)))

  accounts_ok : (begun : S) (seats a n : ℕ) → a + n ≤ seats → AllByRecursion (IsAccountOf seats (new_course {C = C} {R = R} begun) 0) (map (new_account {C = C} {R = R} begun) (range_with_len a n))
  accounts_ok begun seats a zero few = tt
  accounts_ok begun seats a (suc n) few = (record { within = omega arith; begun = refl; speaker = refl; mine = refl; seen = ([], refl) }, accounts_ok begun seats (a + 1) n (omega arith))

  -- the accounts that are left, with the next before the others
  pub accounts_more : (begun : S) (number seats : ℕ) → number < seats → accounts_from {C = C} {R = R} begun number seats ≡ new_account {C = C} {R = R} begun number ∷ accounts_from begun (number + 1) seats
  accounts_more begun number seats less = ap (map (new_account {C = C} {R = R} begun)) (range_more number seats less)

  -- one pass more
  pub passes_push : (desk : DeskId S) (n : ℕ) → new_passes {C = C} {R = R} desk (n + 1) ≡ new_passes desk n ++ new_pass desk n ∷ []
  passes_push desk n =
      let step_one : n + 1 ≡ suc n = omega arith in
      let plain : 0 + n ≡ n = omega arith in
      ap (λ k. map (new_pass desk) (range_with_len 0 k)) step_one ∙ ap (map (new_pass desk)) (range_push 0 n) ∙ map-append (new_pass desk) (range_with_len 0 n) ((0 + n) ∷ [])
      ∙ ap (λ k. new_passes desk n ++ new_pass desk k ∷ []) plain

module _ {S C R : Type 0} where
  only : (key : DeskKey S) → Fits key.seats (new_course {C = C} {R = R} key.begun) 0 (first key) → (j : ℕ) (u : View S C R) → get_elem? (first key ∷ []) j ≡ some u → Fits key.seats (new_course key.begun) j u
  only key fits zero u there = subst (Fits key.seats (new_course key.begun) 0) (some-injective (first key) u there) fits
  only key fits (suc j) u there = absurd (some-ne-none u (sym there))

  idle : (key : DeskKey S) → (j : ℕ) (u : View S C R) → get_elem? (first key ∷ []) j ≡ some u → u.stage ≡ Turn → ⊥
  idle key zero u there turn = let odd : Idle ≡ Turn = ap (λ y. y.stage) (some-injective (first key) u there) ∙ turn in absurd (cc)
  idle key (suc j) u there turn = absurd (some-ne-none u (sym there))

module _ {S C R : Type 0} {step : S → C → R → S → Type 0} where
  -- the table of a new desk keeps the rule
  pub opens : (key : DeskKey S) → key.seats ≤ 64 → Keeps step key (opening (0 ∷ 0 ∷ []) (Some key.begun ∷ []) (first key))
  opens key few =
      let x : Course S C R = new_course key.begun in
      let fits : Fits key.seats x 0 (first key) = record { seen = ([], refl); met = ([], refl); accounts = accounts_ok C R key.begun key.seats 0 (key.seats - 0) (omega arith); stage = tt; busy = omega arith } in (
        x,
        record {
          words = refl;
          run = tt;
          known = (λ k d within. absurd (omega arith));
          few = few;
          given = (let long = length-map-range_with_len (new_account {C = C} {R = R} key.begun) 0 (key.seats - 0) in omega arith);
          drawn = refl;
          room = omega arith;
          fits = only key fits;
          home = inl (refl, idle key);
        },
        refl,
      )

  -- the seat with the accounts that are left deals the next
  pub deals_next : (begun : S) (seats : ℕ) (key : DeskKey S) (id number : ℕ) → number < seats
      → Splits (Keeps step key) id (view (accounts_from begun number seats) [] [] Idle) (kept (view (accounts_from begun number seats) [] [] Idle)) (dealt (view (accounts_from begun number seats) [] [] Idle))
  deals_next begun seats key id number less =
      let asks : List (Account S C R) → Type 0 = λ accounts. Splits (Keeps step key) id (view accounts [] [] Idle) (kept (view accounts [] [] Idle)) (dealt (view accounts [] [] Idle)) in
      subst asks (sym (accounts_more C R begun number seats less))
      (deals key id (new_account begun number) (accounts_from begun (number + 1) seats) [] [] (numbered C R begun (λ k. k ≢ number) (number + 1) (seats - (number + 1)) (λ k low high same. absurd (omega (arith, same)))))
