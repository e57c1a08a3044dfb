use Rattle.std.proofs.Common.{arith}
use Rattle.std.proofs.lemmas.Bool.Decides.{nat_tests}
use Rattle.pana_copies.proofs.Sums.{same_bytes}
use Rattle.pana_copies.proofs.sum.SumPartialEq.eq.Goals as goal

pub returns : goal.returns
returns c = grind (arith, nat_tests, same_bytes _ _ c.self.invariant c.other.invariant, c.eq.ensures, c.as_slice.ensures, c.as_slice-2.ensures, c.deref.ensures, c.deref-2.ensures, c.self.view_is, c.other.view_is)
