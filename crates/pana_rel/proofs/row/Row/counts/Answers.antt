-- The kind that isn't counted is what is left of all.
use Rattle.std.proofs.Common.{length, arith, ◌∙◌, sym}
use Rattle.std.proofs.lemmas.Bool.{eqb-true}
use Rattle.pana_event.specs.declared.rel.Rel.TheVariants.{Equal, Older, Newer, Conflict}
use Rattle.pana_rel.proofs.Counted.{AreOut, counted_out}
use Rattle.pana_rel.proofs.row.Row.counts.Goals as goal

out : (c : goal.After-len) → AreOut c.args.self.now.items c.loop-rest.older c.loop-rest.newer c.loop-rest.equal
out c =
    counted_out c.args.self.now.items c.loop-rest.rest.now _ _ _ c.loop-rest.invariant.older c.loop-rest.invariant.newer c.loop-rest.invariant.equal
    (eqb-true (length c.loop-rest.rest.now) 0 (sym c.is_empty.ensures ∙ c.loop-rest-test.false))

pub overflow_sub-conflict : goal.overflow_sub-conflict
overflow_sub-conflict c = omega (arith, (out c).rest_is, c.len.ensures)

pub overflow_sub-conflict-2 : goal.overflow_sub-conflict-2
overflow_sub-conflict-2 c = omega (arith, (out c).rest_is, c.len.ensures)

pub overflow_sub-conflict-3 : goal.overflow_sub-conflict-3
overflow_sub-conflict-3 c = omega (arith, (out c).rest_is, c.len.ensures)

pub overflow_sub-result : goal.overflow_sub-result
overflow_sub-result c = omega (arith, (out c).equal_is, c.requires.itself)

pub returns : goal.returns
returns c Older = omega (arith, (out c).older_is)
returns c Newer = omega (arith, (out c).newer_is)
returns c Equal = omega (arith, (out c).equal_is, c.requires.itself)
returns c Conflict = omega (arith, (out c).rest_is, c.len.ensures)
