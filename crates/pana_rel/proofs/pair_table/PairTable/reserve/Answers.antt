use Rattle.std.proofs.Common.{◌∙◌, ap, ap₂, arith, length, ◌≤◌, subst, sym}
use Rattle.std.proofs.lemmas.List.{take_at}
use Rattle.pana_rel.specs.inner.Square.{items_of, row_in, AreSpare, IsKept}
use Rattle.pana_rel.proofs.Insertions.{on_err, reserved_call}
use Rattle.pana_rel.proofs.Spares.{first_spare, grown_spare}
use Rattle.pana_rel.proofs.Tables.{same_rels}
use Rattle.pana_rel.proofs.pair_table.PairTable.reserve.Goals as goal

pub returns-in_err-reserve-4-clause-pairs : goal.returns-in_err-reserve-4-clause-pairs
returns-in_err-reserve-4-clause-pairs c =
    let d = reserved_call _ _ _ _ _ c.self.invariant.0 c.reserve.ensures.items (c.deref_mut.ensures.value ∙ c.reserve-2.ensures.items) c.reserve-4.ensures.tall c.reserve-4.ensures.same in
    let end = take_at _ _ _ (c.reserve-4.ensures.tall ∙ c.deref_mut.ensures.len) in
    same_rels _ _ _ _ _ _ c.args.self.now c.self.view_is d.copies (ap items_of end ∙ d.items)

pub returns-clause-pairs : goal.returns-clause-pairs
returns-clause-pairs c =
    let d = reserved_call _ _ _ _ _ c.self.invariant.0 c.reserve.ensures.items (c.deref_mut.ensures.value ∙ c.reserve-2.ensures.items) c.reserve-4.ensures.tall c.reserve-4.ensures.same in
    let end = take_at _ _ _ (c.reserve-4.ensures.tall ∙ c.deref_mut.ensures.len) in
    same_rels _ _ _ _ _ _ c.args.self.now c.self.view_is d.copies (ap items_of end ∙ d.items)

pub returns-in_err-reserve-4-clause-err : goal.returns-in_err-reserve-4-clause-err
returns-in_err-reserve-4-clause-err c =
    let d = reserved_call _ _ _ _ _ c.self.invariant.0 c.reserve.ensures.items (c.deref_mut.ensures.value ∙ c.reserve-2.ensures.items) c.reserve-4.ensures.tall c.reserve-4.ensures.same in
    let end = take_at _ _ _ (c.reserve-4.ensures.tall ∙ c.deref_mut.ensures.len) in
    on_err _ _ (ap₂ (λ copies rels. record { copies = copies; rels = rels; room = length c.reserve-3.new.self.items }) d.copies (ap items_of end ∙ d.items)
    ∙ ap (λ room. record { copies = c.self.inside.copies.items; rels = items_of c.self.inside.rows.items; room = room }) (ap length c.reserve-3.ensures.items) ∙ c.self.view_is)

pub invariant_of-self-in_err-reserve-4 : goal.invariant_of-self-in_err-reserve-4
invariant_of-self-in_err-reserve-4 c =
    let d = reserved_call _ _ _ _ _ c.self.invariant.0 c.reserve.ensures.items (c.deref_mut.ensures.value ∙ c.reserve-2.ensures.items) c.reserve-4.ensures.tall c.reserve-4.ensures.same in
    let same = c.deref_mut.ensures.value ∙ c.reserve-2.ensures.items in
    let end = take_at _ _ _ (c.reserve-4.ensures.tall ∙ c.deref_mut.ensures.len) in (
      subst (λ r. IsKept c.reserve.new.self.items r) (sym end) d.kept,
      subst (λ r. AreSpare r c.reserve-3.new.self.items) (sym end) (subst (AreSpare c.reserve-4.new.rows) (sym c.reserve-3.ensures.items)
          (grown_spare _ _ _ (c.reserve-4.ensures.tall ∙ ap length same) (λ i. subst (λ r. (row_in r i).room ≤ (row_in c.reserve-4.new.rows i).room) same (c.reserve-4.ensures.more i)) c.self.invariant.1)),
      omega arith,
      omega arith,
      omega arith,
    )

pub invariant_of-self-2 : goal.invariant_of-self-2
invariant_of-self-2 c =
    let d = reserved_call _ _ _ _ _ c.self.invariant.0 c.reserve.ensures.items (c.deref_mut.ensures.value ∙ c.reserve-2.ensures.items) c.reserve-4.ensures.tall c.reserve-4.ensures.same in
    let same = c.deref_mut.ensures.value ∙ c.reserve-2.ensures.items in
    let end = take_at _ _ _ (c.reserve-4.ensures.tall ∙ c.deref_mut.ensures.len) in (
      subst (λ r. IsKept c.reserve.new.self.items r) (sym end) d.kept,
      subst (λ r. AreSpare r c.push_reserved.new.self.items) (sym end)
          (first_spare c.self.inside.rows.items _ c.reserve-3.new.self.items _ c.in_ok-spare.spare (c.reserve-4.ensures.tall ∙ ap length same) (omega arith) c.push_reserved.ensures.items c.in_ok-spare.ensures.items (omega (arith, c.in_ok-spare.ensures.room, c.len-2.ensures)) c.in_ok-reserve-4.ensures.room),
      omega (arith, c.in_ok-reserve.ensures.ok),
      omega (arith, c.in_ok-reserve-2.ensures.ok),
      omega (arith, c.in_ok-reserve-3.ensures.ok),
    )
