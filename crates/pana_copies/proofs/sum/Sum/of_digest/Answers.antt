use Rattle.std.proofs.Common.{sym, subst}
use Rattle.pana_copies.specs.inner.SumBytes.{AreSumBytes}
use Rattle.pana_copies.proofs.Sums.{bytes_written}
use Rattle.pana_copies.proofs.sum.Sum.of_digest.Goals as goal

pub invariant_of-result : goal.invariant_of-result
invariant_of-result c = subst AreSumBytes (sym c.in_ok-new.ensures.ok) (bytes_written c.args.digest.now c.told-digest c.fits-digest)
