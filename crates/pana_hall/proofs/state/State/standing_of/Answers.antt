use Rattle.pana_hall.proofs.Words.{List, Option, arith, nat_tests, ◌≡◌, ℕ, ap, ◌∙◌, KeptRows, families}
use Rattle.pana_rel.specs.declared.counts.Counts.{Counts}
use Rattle.pana_calls.specs.declared.standing.CopyState.{CopyState}
use Rattle.pana_hall.specs.Status.{state_of}
use Rattle.pana_hall.specs.inner.Relatives.{counts_in}
use Rattle.pana_hall.proofs.Listed.{found_entry}
use Rattle.pana_hall.proofs.Related.{has_copy, standing_by, standing_is}
use Rattle.pana_hall.proofs.state.State.standing_of.Goals as goal

pub family-requires-clause-has : goal.family-requires-clause-has
family-requires-clause-has c = let copy = has_copy _ c.requires.lives in grind (arith, nat_tests, found_entry, c.requires.kept.accepted)

pub returns : goal.returns
returns c =
    let journal = c.args.self.now.journal.entries in
    let copy = has_copy _ c.requires.lives in
    standing_is journal c.args.copy copy.0 _ c.requires.kept.accepted copy.1
    (made_of c.args.copy c.number.result (families journal c.args.copy) c.counts_of-counts.result _ c.state_of.result c.in_ok-sum_of.field-0 _ (c.number.ensures ∙ ap (λ (k : KeptRows). k.number) c.family.ensures)
    (c.counts_of-counts.ensures ∙ ap (λ l. counts_in l c.args.copy) (c.as_slice.ensures ∙ c.in_ok-relatives.ensures)) c.state_of.ensures c.in_ok-sum_of.ensures)
  where
    made_of : (n family own : ℕ) (counts k : Counts) (state : CopyState) (sum s : Option (List ℕ)) → family ≡ own → counts ≡ k → state ≡ state_of counts → sum ≡ s
        → record { copy = n; family = family; newer = counts.above; older = counts.below; equal = counts.equal; conflict = counts.conflict; state = state; sum = sum } ≡ standing_by n own k s
    made_of n family own counts k state sum s a b d e = cc
