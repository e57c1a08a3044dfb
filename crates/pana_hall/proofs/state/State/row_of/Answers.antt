use Rattle.pana_hall.proofs.Words.{◌≡◌, IsSome, sym, ap, ap₂, ◌∙◌, subst, kept}
use Rattle.pana_calls.specs.declared.standing.{CopyState.CopyState, PlacedCopy.PlacedCopy, StatusRow.StatusRow}
use Rattle.pana_hall.specs.Status.{is_newest, state_of}
use Rattle.pana_hall.specs.inner.Relatives.{counts_in, placed_at, relatives_of, with_in}
use Rattle.pana_hall.proofs.Related.{has_copy, row_is, row_not, with_kept}
use Rattle.pana_hall.proofs.state.State.row_of.Goals as goal

pub returns-then-is_simply_newest : goal.returns-then-is_simply_newest
returns-then-is_simply_newest c =
    let journal = c.args.self.now.journal.entries in
    let copy = has_copy _ c.requires.lives in
    let state : c.state_of-state.result ≡ state_of (counts_in (relatives_of journal c.args.copy) c.args.copy) =
    c.state_of-state.ensures ∙ ap state_of (c.counts_of.ensures ∙ ap (λ l. counts_in l c.args.copy) (c.as_slice.ensures ∙ c.in_ok-relatives.ensures)) in
    row_not journal c.args.copy copy.0 c.requires.kept.accepted copy.1 (ap is_newest (sym state) ∙ sym c.is_simply_newest.ensures ∙ c.if-is_simply_newest.true)

pub placed-requires-2 : goal.placed-requires-2
placed-requires-2 c =
    let journal = c.args.self.now.journal.entries in
    let copy = has_copy _ c.requires.lives in
    let with : c.in_ok-with.with ≡ with_in journal c.args.copy (relatives_of journal c.args.copy) c.state_of-state.result =
    c.in_ok-with.ensures ∙ ap (λ l. with_in journal c.args.copy l c.state_of-state.result) (c.as_slice-2.ensures ∙ c.in_ok-relatives.ensures) in
    subst (λ k. IsSome (kept c.args.self.now.copies k)) (sym with) (with_kept journal c.args.copy copy.0 c.args.self.now.copies c.state_of-state.result c.requires.kept.accepted c.requires.kept.spots copy.1)

pub returns : goal.returns
returns c =
    let journal = c.args.self.now.journal.entries in
    let copies = c.args.self.now.copies in
    let state = c.state_of-state.result in
    let copy = has_copy _ c.requires.lives in
    let with : c.in_ok-placed.field-0 ≡ placed_at copies (with_in journal c.args.copy (relatives_of journal c.args.copy) state) =
    c.in_ok-placed.ensures ∙ ap (placed_at copies) (c.in_ok-with.ensures ∙ ap (λ l. with_in journal c.args.copy l state) (c.as_slice-2.ensures ∙ c.in_ok-relatives.ensures)) in
    row_is journal c.args.copy copy.0 copies state _ c.requires.kept.accepted c.requires.kept.spots copy.1
    (c.state_of-state.ensures ∙ ap state_of (c.counts_of.ensures ∙ ap (λ l. counts_in l c.args.copy) (c.as_slice.ensures ∙ c.in_ok-relatives.ensures)))
    (sym c.is_simply_newest.ensures ∙ c.if-is_simply_newest.false)
    (ap₂ (row_with state) c.in_ok-copy.ensures with)
  where
    row_with : CopyState → PlacedCopy → PlacedCopy → StatusRow
    row_with state own with = record { copy = own.copy; place = own.place; state = state; with = with }
