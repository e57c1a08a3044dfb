use Rattle.std.proofs.Common.{arith}
use Rattle.std.proofs.lemmas.List.{ext_get_or}
use Rattle.std.proofs.lemmas.List.Edits.{length-insert}
use Rattle.pana_event.specs.declared.rel.Rel.TheVariants.{Equal}
use Rattle.pana_rel.proofs.rows.fill_row.Goals as goal

pub returns-clause-items : goal.returns-clause-items
returns-clause-items c =
    let long = length-insert c.args.rels.now c.args.at Equal (omega (arith, c.requires.long, c.requires.within)) in
    let done = c.loop-k.invariant in
    ext_get_or Equal _ _ (omega (arith, long, done.0, c.requires.long)) (λ k less. done.1 k (omega (arith, less, done.0, c.len-k-end.ensures, c.loop-k-test.false)))
