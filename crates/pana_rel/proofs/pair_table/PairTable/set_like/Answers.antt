use Rattle.std.proofs.Common.{◌∙◌, ◌≡◌, ap, sym, arith, length, take, drop, ◌++◌, List}
use Rattle.std.proofs.lemmas.List.{take_at}
use Rattle.pana_rel.specs.Pairs.{liked_row, rel_of}
use Rattle.pana_rel.specs.inner.Square.{Relations, row_in}
use Rattle.pana_rel.proofs.Changes.{IsReplaced, likened_call}
use Rattle.pana_rel.proofs.Places.{same_place}
use Rattle.pana_rel.proofs.Spares.{grown_spare}
use Rattle.pana_rel.proofs.Tables.{holds_table}
use Rattle.pana_rel.proofs.pair_table.PairTable.set_like.Goals as goal

pub set_like-requires-clause-differ : goal.set_like-requires-clause-differ
set_like-requires-clause-differ c = λ same.
    c.requires.differ (same_place c.args.self.now.copies c.args.source c.args.copy c.requires.source c.requires.copy (sym c.place-from.ensures.place ∙ same ∙ c.place-at.ensures.place))

-- the rows afterwards
abbrev final : goal.After-self-1 → List Relations
final c = take c.self.inside.rows.len (c.set_like.new.rows ++ drop (length c.set_like.new.rows) c.self.inside.rows.items)

final_is : (c : goal.After-self-1) → final c ≡ c.set_like.new.rows
final_is c = take_at _ _ _ (c.set_like.ensures.tall ∙ c.deref_mut.ensures.len)

done : (c : goal.After-self-1) → IsReplaced c.self.inside.copies.items (final c) c.args.copy (liked_row c.args.copy (rel_of c.args.self.now c.args.source)) (rel_of c.args.self.now)
done c =
    likened_call _ _ _ _ _ _ c.args.self.now c.args.source c.args.copy c.place-from.result c.place-at.result c.self.invariant.0 c.self.view_is c.deref_mut.ensures.value c.set_like.ensures.tall c.set_like.ensures.own c.set_like.ensures.others
    (final_is c) c.requires.source c.requires.copy c.place-from.ensures.place c.place-at.ensures.place

pub invariant_of-self : goal.invariant_of-self
invariant_of-self c = (
  (done c).kept,
  grown_spare _ _ (final c) (ap length (final_is c) ∙ c.set_like.ensures.tall ∙ ap length c.deref_mut.ensures.value)
      (λ i. omega (arith, ap (λ r. (row_in r i).room) (final_is c), c.set_like.ensures.rooms i, ap (λ r. (row_in r i).room) c.deref_mut.ensures.value)) c.self.invariant.1,
  omega arith,
  omega arith,
  omega arith,
)

pub returns-clause-pairs : goal.returns-clause-pairs
returns-clause-pairs c = holds_table _ _ _ _ (done c).holds
