use Rattle.std.proofs.Common.{◌∙◌}
use Rattle.std.specs.Ordering.{nat_cmp}
use Rattle.std.specs.Cmp.Lexicographic.{slice_cmp}
use Rattle.pana_copies.proofs.Sums.{sums_compare}
use Rattle.pana_copies.proofs.sum.Sum.order.Goals as goal

pub returns : goal.returns
returns c =
    c.cmp.ensures ∙ (λ i. slice_cmp nat_cmp ((c.as_slice.ensures ∙ c.deref.ensures) i) ((c.as_slice-2.ensures ∙ c.deref-2.ensures) i))
    ∙ sums_compare c.self.inside.bytes.value c.other.inside.bytes.value c.self.invariant c.other.invariant
    ∙ (λ i. slice_cmp nat_cmp (c.self.view_is i) (c.other.view_is i))
