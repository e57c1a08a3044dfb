use Rattle.std.proofs.Common.{◌<◌, ◌≤◌, ◌+◌, ◌∙◌, ap, arith, length, refl, subst, sym}
use Rattle.std.proofs.lemmas.List.{get_or_read, take_at}
use Rattle.std.proofs.lemmas.List.Edits.{length-remove}
use Rattle.pana_rel.proofs.Changes.{dropped_call}
use Rattle.pana_rel.proofs.Spares.{dropped_room, one_more_spare}
use Rattle.pana_rel.proofs.Tables.{holds_table}
use Rattle.pana_rel.proofs.pair_table.PairTable.drop_copy.Goals as goal

pub invariant_of-self : goal.invariant_of-self
invariant_of-self c =
    let end = take_at _ _ _ (c.close_column.ensures.tall ∙ c.deref_mut.ensures.len) in
    let same = c.deref_mut.ensures.value ∙ c.remove-row.ensures.items in
    let within : c.place-at.result < length c.self.inside.rows.items = omega (arith, c.place-at.ensures.within, c.self.invariant.0.tall, ap (λ t. length t.copies) c.self.view_is) in (
      (dropped_call _ _ _ _ _ _ _ c.args.self.now c.args.copy _ c.self.invariant.0 c.self.view_is c.remove.ensures.items same c.close_column.ensures.tall c.close_column.ensures.rows end c.requires
          c.place-at.ensures.place).kept,
      one_more_spare _ _ _ _ _ (omega (arith, ap length end, c.close_column.ensures.tall, ap length same, length-remove c.self.inside.rows.items c.place-at.result within)) c.push_reserved.ensures.items c.clear.ensures.items
          (omega (arith, c.clear.ensures.room, subst (λ r. length c.self.inside.rows.items + length c.self.inside.spare.items ≤ r.room) (sym (get_or_read _ _ _ within c.remove-row.ensures.value _)) (c.self.invariant.1.rooms _ within)))
          (λ n. dropped_room n _ _ _ _ _ within same c.close_column.ensures.tall c.close_column.ensures.rooms end) c.self.invariant.1,
      omega arith,
      omega arith,
      omega arith,
    )

pub returns-clause-copies : goal.returns-clause-copies
returns-clause-copies c =
    (dropped_call _ _ _ _ _ c.close_column.new.rows _ c.args.self.now c.args.copy _ c.self.invariant.0 c.self.view_is c.remove.ensures.items (c.deref_mut.ensures.value ∙ c.remove-row.ensures.items)
    c.close_column.ensures.tall c.close_column.ensures.rows refl c.requires c.place-at.ensures.place).copies_are

pub returns-clause-pairs : goal.returns-clause-pairs
returns-clause-pairs c =
    holds_table _ _ _ _ (dropped_call _ _ _ _ _ _ _ c.args.self.now c.args.copy _ c.self.invariant.0 c.self.view_is c.remove.ensures.items (c.deref_mut.ensures.value ∙ c.remove-row.ensures.items)
    c.close_column.ensures.tall c.close_column.ensures.rows (take_at _ _ _ (c.close_column.ensures.tall ∙ c.deref_mut.ensures.len)) c.requires c.place-at.ensures.place).holds
