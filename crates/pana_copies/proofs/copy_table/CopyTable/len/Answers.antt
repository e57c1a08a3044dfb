use Rattle.std.proofs.Common.{nat_eq, sym, subst, ap, ◌∙◌, length}
use Rattle.std.specs.List.{IsDistinct}
use Rattle.std.specs.Map.{keys_of}
use Rattle.pana_copies.proofs.Kept.{apart_numbers}
use Rattle.pana_copies.proofs.Sides.{length-spots}
use Rattle.pana_copies.proofs.copy_table.CopyTable.len.Goals as goal

pub returns-clause-len : goal.returns-clause-len
returns-clause-len c = c.len.ensures.len ∙ sym (length-spots _ _ c.self.invariant.0.even.long) ∙ ap (λ t. length t.spots) c.self.view_is

pub returns-clause-once : goal.returns-clause-once
returns-clause-once c = subst (λ t. IsDistinct nat_eq (keys_of t.spots)) c.self.view_is (apart_numbers _ _ c.self.invariant.0.even)
