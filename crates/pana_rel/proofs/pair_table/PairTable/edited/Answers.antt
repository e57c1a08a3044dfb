use Rattle.std.proofs.Common.{◌∙◌, ap, arith, length}
use Rattle.std.proofs.lemmas.List.{length-set, take_at}
use Rattle.pana_rel.proofs.Changes.{edited_call}
use Rattle.pana_rel.proofs.Spares.{still_spare, written_room}
use Rattle.pana_rel.proofs.Tables.{holds_table}
use Rattle.pana_rel.proofs.pair_table.PairTable.edited.Goals as goal

pub invariant_of-self : goal.invariant_of-self
invariant_of-self c = (
  (edited_call _ _ _ _ _ _ c.args.self.now c.args.copy _ _ _ c.self.invariant.0 c.self.view_is c.index_mut.ensures.value
      c.edit_row.ensures.long c.edit_row.ensures.itself c.edit_row.ensures.others c.deref_mut.ensures.value c.mirror.ensures.tall c.mirror.ensures.own c.mirror.ensures.others
      (take_at _ _ _ (c.mirror.ensures.tall ∙ c.deref_mut.ensures.len)) c.requires c.place-at.ensures.place).kept,
  still_spare _ _ _ (ap length (take_at _ _ _ (c.mirror.ensures.tall ∙ c.deref_mut.ensures.len)) ∙ c.mirror.ensures.tall ∙ ap length c.deref_mut.ensures.value ∙ length-set _ _ _) (λ n. written_room n _ _ _ _ _ _ _ (omega (arith, c.place-at.ensures.within, c.self.invariant.0.tall, ap (λ t. length t.copies) c.self.view_is)) c.index_mut.ensures.value
      c.edit_row.ensures.room c.deref_mut.ensures.value c.mirror.ensures.rooms (take_at _ _ _ (c.mirror.ensures.tall ∙ c.deref_mut.ensures.len)) (ap length (take_at _ _ _ (c.mirror.ensures.tall ∙ c.deref_mut.ensures.len)) ∙ c.mirror.ensures.tall ∙ ap length c.deref_mut.ensures.value ∙ length-set _ _ _)) c.self.invariant.1,
  omega arith,
  omega arith,
  omega arith,
)

pub returns-clause-pairs : goal.returns-clause-pairs
returns-clause-pairs c =
    holds_table _ _ _ _ (edited_call _ _ _ _ _ _ c.args.self.now c.args.copy _ _ _ c.self.invariant.0 c.self.view_is c.index_mut.ensures.value
    c.edit_row.ensures.long c.edit_row.ensures.itself c.edit_row.ensures.others c.deref_mut.ensures.value c.mirror.ensures.tall c.mirror.ensures.own c.mirror.ensures.others
    (take_at _ _ _ (c.mirror.ensures.tall ∙ c.deref_mut.ensures.len)) c.requires c.place-at.ensures.place).holds
