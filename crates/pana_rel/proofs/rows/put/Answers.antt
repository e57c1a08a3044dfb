use Rattle.std.proofs.Common.{◌≡◌, ℕ, ◌<◌, ◌≤◌, ◌∙◌, ap, arith, length, subst, sym}
use Rattle.std.specs.Prelude.{slice_index_or}
use Rattle.std.specs.List.{insert}
use Rattle.std.proofs.lemmas.List.{take_at}
use Rattle.pana_event.specs.declared.rel.Rel.TheVariants.{Equal}
use Rattle.pana_event.specs.Relation.{reverse_of}
use Rattle.pana_rel.specs.inner.Square.{row_in}
use Rattle.pana_rel.proofs.Insertions.{inserted_rows, ok_left}
use Rattle.pana_rel.proofs.Spares.{inserted_room}
use Rattle.pana_rel.proofs.rows.put.Goals as goal

pub returns-clause-rows : goal.returns-clause-rows
returns-clause-rows c =
    inserted_rows c.args.rows.now.items c.open_column.new.rows _ c.args.at c.insert.new.self c.args.given.items (c.requires.long ∙ sym c.requires.tall)
    (omega (arith, c.requires.within, c.requires.tall)) c.requires.wide (c.open_column.ensures.tall ∙ ap length c.deref_mut.ensures.value)
    (subst (λ r. (i : ℕ) → i < length r → (row_in c.open_column.new.rows i).items ≡ insert (row_in r i).items c.args.at (reverse_of (slice_index_or c.args.given.items i Equal))) c.deref_mut.ensures.value c.open_column.ensures.rows)
    c.insert.ensures.items
    (ok_left _ _ _ _ _ c.unwrap-2.ensures c.insert-3.ensures.items ∙ ap (λ r. insert r c.args.at c.insert.new.self) (take_at _ _ _ (c.open_column.ensures.tall ∙ c.deref_mut.ensures.len)))

pub returns-clause-rooms : goal.returns-clause-rooms
returns-clause-rooms c n all room =
    let end = take_at _ _ _ (c.open_column.ensures.tall ∙ c.deref_mut.ensures.len) in
    inserted_room n c.args.rows.now.items c.open_column.new.rows _ c.args.at c.insert.new.self (c.open_column.ensures.tall ∙ ap length c.deref_mut.ensures.value) (omega (arith, c.requires.within, c.requires.tall))
    (λ i. subst (λ r. (row_in r i).room ≤ (row_in c.open_column.new.rows i).room) c.deref_mut.ensures.value (c.open_column.ensures.more i))
    (ok_left _ _ _ _ _ c.unwrap-2.ensures c.insert-3.ensures.items ∙ ap (λ r. insert r c.args.at c.insert.new.self) end) (omega (arith, room, c.insert.ensures.room)) all
