-- What the rule says of a desk at rest, and of a seat with the turn.
use Rattle.std.specs.Prelude.{◌≡◌, ℕ, [], ◌∷◌, length, slice_index, Some}
use Rattle.std.specs.Prelude.{Option as Maybe}
use Rattle.std.proofs.Common.{sym, ap, ◌∙◌, subst, inl, inr, arith}
use mathlib.Core.Option.{some}
use Rattle.atomic_table.specs.Table.{State}
use Rattle.pana_turn.specs.declared.view.Stage.{Stage}
use Rattle.pana_turn.specs.declared.view.Stage.TheVariants.{Idle, Turn}
use Rattle.pana_turn.specs.declared.view.View.{View}
use Rattle.pana_turn.specs.History.{IsHistory, left_by}
use Rattle.pana_turn.specs.Rule.{AllIdle, Course, DeskKey, FitsStage, HasTurn, IsAtRest, IsAway, Keeps, KeepsTo, drawn_at, drawn_by}
use Rattle.pana_turn.proofs.Seats.{sum_by-below, sum_by-zero}

module _ {S C R : Type 0} {step : S → C → R → S → Type 0} where
  module _ (seats : ℕ) (table : State (Maybe S) (View S C R)) (x : Course S C R) (kept : KeepsTo step seats table x) where
    none_drawn : AllIdle table.views → length x.history ≡ x.tickets
    none_drawn idle =
        let below = sum_by-below drawn_by (λ _. 0) table.views (λ j u there. let none_here : drawn_by u ≡ 0 = ap drawn_at (idle j u there) in omega (arith, none_here)) in
        omega (arith, kept.drawn, sum_by-zero table.views)

    home_at_rest : AllIdle table.views → table.homes ≡ some (Some (left_by x.begun x.history)) ∷ []
    home_at_rest idle = elim kept.home [ inl h ↦ h.0 | inr g ↦ let h = g.1 in let odd : Idle ≡ Turn = sym (idle h.0 h.1 h.2) ∙ h.3 in absurd (cc) ]

    turn_stands : (seat : ℕ) (view : View S C R) → HasTurn table.views seat view → FitsStage x seat view.seen Turn
    turn_stands seat view has = let P : Stage → Type 0 = λ stage. FitsStage x seat view.seen stage in subst P has.1 ((kept.fits seat view has.0).stage)

  pub at_rest : (key : DeskKey S) (table : State (Maybe S) (View S C R)) → Keeps step key table → AllIdle table.views → IsAtRest step key.begun table
  at_rest key table keeps idle =
      let x = keeps.0 in let kept = keeps.1 in
      subst (λ (b : S). IsAtRest step b table) keeps.2
      (record {
        history = x.history;
        run = kept.run;
        words = kept.words ∙ ap (λ n. n ∷ length x.history ∷ []) (sym (none_drawn key.seats table x kept idle));
        home = home_at_rest key.seats table x kept idle;
      })

  pub away : (key : DeskKey S) (table : State (Maybe S) (View S C R)) (seat : ℕ) (view : View S C R) → Keeps step key table → HasTurn table.views seat view → IsAway step key.begun table view
  away key table seat view keeps has =
      let x = keeps.0 in let kept = keeps.1 in
      let seen : view.seen ≡ x.history = (turn_stands key.seats table x kept seat view has).2 in
      record {
        run = subst (λ (b : S). IsHistory step b view.seen) keeps.2 (subst (IsHistory step x.begun) (sym seen) kept.run);
        finished = ap (λ ws. slice_index ws 1) kept.words ∙ ap length (sym seen);
        away = elim kept.home [ inl h ↦ absurd (h.1 seat view has.0 has.1) | inr g ↦ g.0 ];
      }

  pub one_turn : (key : DeskKey S) (table : State (Maybe S) (View S C R)) (a b : ℕ) (one other : View S C R) → Keeps step key table → HasTurn table.views a one → HasTurn table.views b other → a ≡ b
  one_turn key table a b one other keeps has has_too =
      sym (turn_stands key.seats table keeps.0 keeps.1 a one has).0 ∙ (turn_stands key.seats table keeps.0 keeps.1 b other has_too).0
