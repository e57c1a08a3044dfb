-- The end of a desk: once every pass is taken in, nobody has the turn.
use Rattle.std.specs.Prelude.{◌≡◌, ◌==◌, ◌||◌, ℕ, zero, suc, ◌<◌, ◌≤◌, true, List, [], ◌∷◌, length, map, set, get_or, All, Some}
use Rattle.std.specs.Prelude.{Option as Maybe}
use Rattle.std.specs.List.{AllByRecursion, list_any}
use Rattle.std.proofs.Common.{refl, sym, ap, ◌∙◌, subst, inl, inr, ne_eqb, arith}
use mathlib.Core.List.{IsPrefix}
use mathlib.Core.Option.{some, some-injective}
use native.Mathlib.Decide.{ℕ_discrete}
use lib.ListN.{get_elem?}
use Rattle.atomic_table.specs.Table.{State, Final, Seen}
use Rattle.pana_turn.specs.declared.finished_call.FinishedCall.{FinishedCall}
use Rattle.pana_turn.specs.declared.view.Account.{Account}
use Rattle.pana_turn.specs.declared.view.Stage.TheVariants.{Idle, Turn}
use Rattle.pana_turn.specs.declared.view.View.{View}
use Rattle.pana_turn.specs.History.{calls_of, left_by}
use Rattle.pana_turn.specs.Passes.{DeskId, PassView, own_calls}
use Rattle.pana_turn.specs.Closing.{Closes, HasAll}
use Rattle.pana_turn.specs.Rule.{Course, DeskKey, IsAccountOf, KeepsTo, Keeps, busy_at}
use Rattle.pana_turn.specs.inner.Views.{account_of, view}

-- a list that has every pass of a desk has one
pub not_none : {S C R : Type 0} (seats : ℕ) (passes : List (PassView S C R)) → 0 < seats → HasAll seats passes → 0 < length passes
not_none seats [] some_there whole = let odd = whole 0 some_there in absurd (cc)
not_none seats (p ∷ passes) some_there whole = omega arith

-- the first pass is of the desk that all are of
pub first_of_desk : {S C R : Type 0} (desk : DeskId S) (seats : ℕ) (passes : List (PassView S C R)) (p : PassView S C R) → p ≡ get_or passes 0 p → 0 < seats → HasAll seats passes
    → All (λ pass. pass.desk ≡ desk) passes → p.desk ≡ desk
first_of_desk desk seats passes p is some_there whole all = ap (λ q. q.desk) is ∙ all 0 p (not_none seats passes some_there whole)

-- a list whose first is put where it is
first_same : {A : Type 0} (xs : List A) (x : A) → x ≡ get_or xs 0 x → set xs 0 x ≡ xs
first_same [] x is = refl
first_same (y ∷ xs) x is = ap (λ z. z ∷ xs) is

module _ {S C R : Type 0} where
  module _ (seats : ℕ) (x : Course S C R) (id : ℕ) where
    -- the seat that took a pass in speaks for it
    speaks : (passes : List (PassView S C R)) (number : ℕ) → list_any (λ pass. pass.number == number) passes ≡ true → AllByRecursion (IsAccountOf seats x id) (map account_of passes) → x.speaker number ≡ id
    speaks [] number has all = absurd (cc)
    speaks (p ∷ passes) number has all =
        elim (ℕ_discrete p.number number) [
          | yes same ↦ ap x.speaker (sym same) ∙ all.0.speaker
          | no other ↦ speaks passes number (sym (ap (λ b. b || list_any (λ pass. pass.number == number) passes) (ne_eqb p.number number other)) ∙ has) all.1
        ]

    -- a seat that is busy speaks for some pass
    busy_speaks : (accounts : List (Account S C R)) → AllByRecursion (IsAccountOf seats x id) accounts → 1 ≤ length accounts → (number : ℕ) × (number < seats) × (x.speaker number ≡ id)
    busy_speaks [] all some_there = absurd (omega arith)
    busy_speaks (a ∷ accounts) all some_there = (a.number, all.0.within, all.0.speaker)

    seen_all : (passes : List (PassView S C R)) → AllByRecursion (IsAccountOf seats x id) (map account_of passes) → All (λ pass. IsPrefix pass.seen x.history) passes
    seen_all [] all k d within = absurd (omega arith)
    seen_all (p ∷ passes) all zero d within = all.0.seen
    seen_all (p ∷ passes) all (suc k) d within = seen_all passes all.1 k d (omega arith)

    own_all : (passes : List (PassView S C R)) → AllByRecursion (IsAccountOf seats x id) (map account_of passes) → All (λ pass. calls_of pass.number x.history ≡ own_calls pass) passes
    own_all [] all k d within = absurd (omega arith)
    own_all (p ∷ passes) all zero d within = all.0.mine
    own_all (p ∷ passes) all (suc k) d within = own_all passes all.1 k d (omega arith)

module _ {S C R : Type 0} (step : S → C → R → S → Type 0) where
  -- what is found in the slot and in word 1
  pub record Ends (seats : ℕ) (begun : S) (passes : List (PassView S C R)) (words : List ℕ) (slots : List (Maybe S)) : Type 0 where
    pub machine : S
    pub calls : ℕ
    pub slot : get_elem? slots 0 ≡ some (Some machine)
    pub word : get_elem? words 1 ≡ some calls
    pub closes : Closes step seats begun passes machine calls

  module _ (seats : ℕ) (passes : List (PassView S C R)) (past : List (FinishedCall S C R)) (whole : HasAll seats passes) (id : ℕ) (s : State (Maybe S) (View S C R)) (x : Course S C R) (kept : KeepsTo step seats s x)
      (at : get_elem? s.views id ≡ some (view (map account_of passes) past [] Idle)) where
    all_accounts : AllByRecursion (IsAccountOf seats x id) (map account_of passes)
    all_accounts = (kept.fits id (view (map account_of passes) past [] Idle) at).accounts

    -- a seat with the turn would speak for a pass that was taken in
    nobody : (j : ℕ) (u : View S C R) → get_elem? s.views j ≡ some u → u.stage ≡ Turn → ⊥
    nobody j u there turn =
        let fits = kept.fits j u there in
        let busy : busy_at u.stage ≡ 1 = ap busy_at turn in
        let of = busy_speaks seats x j u.accounts fits.accounts (omega (arith, fits.busy, busy)) in
        let same : j ≡ id = sym of.2 ∙ speaks seats x id passes of.0 (whole of.0 of.1) all_accounts in
        let here : get_elem? s.views id ≡ some u = ap (λ i. get_elem? s.views i) (sym same) ∙ there in
        let odd : Idle ≡ Turn = ap (λ y. y.stage) (some-injective (view (map account_of passes) past [] Idle) u (sym at ∙ here)) ∙ turn in
        absurd (cc)

    is_home : s.homes ≡ some (Some (left_by x.begun x.history)) ∷ []
    is_home = elim kept.home [ inl h ↦ h.0 | inr g ↦ let h = g.1 in absurd (nobody h.0 h.1 h.2 h.3) ]

    pub closes_so : Closes step seats x.begun passes (left_by x.begun x.history) (length x.history)
    closes_so =
        record {
          history = x.history;
          run = kept.run;
          left = refl;
          counted = refl;
          seen = seen_all seats x id passes all_accounts;
          own = own_all seats x id passes all_accounts;
          others = kept.known;
        }

  -- the desk ends so
  pub ends : (key : DeskKey S) (passes : List (PassView S C R)) (past : List (FinishedCall S C R)) (words : List ℕ) (slots : List (Maybe S)) (id : ℕ) → HasAll key.seats passes
      → Final (Seen (Keeps step key) id (view (map account_of passes) past [] Idle)) words slots → Ends key.seats key.begun passes words slots
  ends key passes past words slots id whole final =
      let s = final.0 in let x = final.1.0.0 in let kept = final.1.0.1 in let at = final.1.1 in
      record {
        machine = left_by x.begun x.history;
        calls = length x.history;
        slot = final.4 0 (Some (left_by x.begun x.history)) (ap (λ homes. get_elem? homes 0) (is_home key.seats passes past whole id s x kept at));
        word = ap (λ ws. get_elem? ws 1) (sym final.2 ∙ kept.words);
        closes = subst (λ (b : S). Closes step key.seats b passes (left_by x.begun x.history) (length x.history)) final.1.0.2 (closes_so key.seats passes past whole id s x kept at);
      }

  -- the same, of the list from which a note was taken
  pub ended : (seats : ℕ) (key : DeskKey S) (passes : List (PassView S C R)) (p q : PassView S C R) (past : List (FinishedCall S C R)) (words : List ℕ) (slots : List (Maybe S)) (id : ℕ) (v : View S C R) → key.seats ≡ seats → p ≡ q
      → q ≡ get_or passes 0 q → HasAll seats passes → v ≡ view (map account_of (set passes 0 p)) past [] Idle → Final (Seen (Keeps step key) id v) words slots → Ends seats key.begun passes words slots
  ended seats key passes p q past words slots id v same_key same_pass is whole same final =
      let given : View S C R → Type 0 = λ w. Final (Seen (Keeps step key) id w) words slots in
      let one : set passes 0 p ≡ passes = ap (set passes 0) same_pass ∙ first_same passes q is in
      let v_is : v ≡ view (map account_of passes) past [] Idle = same ∙ ap (λ ps. view (map account_of ps) past [] Idle) one in
      subst (λ n. Ends n key.begun passes words slots) same_key (ends key passes past words slots id (subst (λ n. HasAll n passes) (sym same_key) whole) (subst given v_is final))

  -- what was found in the slot and in word 1 is what is left
  pub left_so : (seats : ℕ) (begun : S) (passes : List (PassView S C R)) (words : List ℕ) (slots : List (Maybe S)) (machine : S) (calls : ℕ) → Ends seats begun passes words slots
      → get_elem? slots 0 ≡ some (Some machine) → get_elem? words 1 ≡ some calls → Closes step seats begun passes machine calls
  left_so seats begun passes words slots machine calls end slot word =
      let same : Some end.machine ≡ Some machine = some-injective (Some end.machine) (Some machine) (sym end.slot ∙ slot) in
      let machine_is : end.machine ≡ machine = cc (same) in
      let calls_is : end.calls ≡ calls = some-injective end.calls calls (sym end.word ∙ word) in
      subst (λ n. Closes step seats begun passes machine n) calls_is (subst (λ (h : S). Closes step seats begun passes h end.calls) machine_is end.closes)
