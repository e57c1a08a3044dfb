use Rattle.std.proofs.Common.{◌∙◌, ◌++◌, ◌∷◌, [], ap, arith}
use Rattle.pana_event.specs.declared.rel.Rel.TheVariants.{Equal}
use Rattle.pana_rel.proofs.Insertions.{single_call}
use Rattle.pana_rel.proofs.Spares.{single_spare}
use Rattle.pana_rel.proofs.pair_table.PairTable.new.Goals as goal

pub invariant_of-result : goal.invariant_of-result
invariant_of-result c = (
  single_call _ _ c.args.first c.extend.new.self (c.push_reserved.ensures.items ∙ ap (λ xs. xs ++ c.args.first ∷ []) c.in_ok-copies.ensures.items)
      (c.push_reserved-2.ensures.items ∙ ap (λ xs. xs ++ c.extend.new.self ∷ []) c.in_ok-rows.ensures.items)
      (c.extend.ensures.items ∙ ap (λ xs. xs ++ Equal ∷ []) c.in_ok-row.ensures.items),
  single_spare _ _ c.extend.new.self (c.push_reserved-2.ensures.items ∙ ap (λ xs. xs ++ c.extend.new.self ∷ []) c.in_ok-rows.ensures.items) c.in_ok-spare.ensures.items (omega (arith, c.in_ok-row.ensures.room)),
  omega (arith, c.in_ok-copies.ensures, c.in_ok-spare.ensures),
  omega (arith, c.in_ok-rows.ensures, c.in_ok-spare.ensures),
  omega (arith, c.in_ok-rows.ensures, c.in_ok-spare.ensures),
)
