use Rattle.std.proofs.Common.{◌∙◌, ◌++◌, ap, arith, subst}
use Rattle.pana_rel.specs.Pairs.{rel_at, rel_of}
use Rattle.pana_rel.specs.inner.Square.{AreInserted}
use Rattle.pana_rel.proofs.Insertions.{inserted_call, IsPutIn}
use Rattle.pana_rel.proofs.Spares.{put_spare, taken_spare}
use Rattle.pana_rel.proofs.Tables.{holds_table}
use Rattle.pana_rel.proofs.pair_table.PairTable.insert_row.Goals as goal

done : (c : goal.After-put) → IsPutIn c.put.new.copies.items c.put.new.rows.items c.args.new (rel_at c.args.self.now.copies c.args.rels.now) c.args.self.now.copies (rel_of c.args.self.now)
done c =
    let given = c.extend.ensures.items ∙ ap (λ xs. xs ++ c.args.rels.now) (taken_spare _ _ _ _ _ c.self.invariant.1 c.pop.ensures.items c.unwrap-row.ensures).bare in
    inserted_call _ _ _ _ _ c.args.self.now c.args.new _ c.args.rels.now c.self.invariant.0 c.self.view_is
    c.put.ensures.copies (subst (AreInserted c.self.inside.rows.items c.put.new.rows.items c.gap-at.result) given c.put.ensures.rows) c.gap-at.ensures c.requires.new c.requires.long

pub invariant_of-self : goal.invariant_of-self
invariant_of-self c =
    let t = taken_spare _ _ _ _ _ c.self.invariant.1 c.pop.ensures.items c.unwrap-row.ensures in
    ((done c).kept, put_spare _ _ _ _ _ c.extend.new.self t c.extend.ensures.room c.put.ensures.rows.tall c.put.ensures.rooms c.self.invariant.1, omega arith, omega arith, omega arith)

pub returns-clause-copies : goal.returns-clause-copies
returns-clause-copies c = (done c).copies_are

pub returns-clause-pairs : goal.returns-clause-pairs
returns-clause-pairs c = holds_table _ _ _ _ (done c).holds
