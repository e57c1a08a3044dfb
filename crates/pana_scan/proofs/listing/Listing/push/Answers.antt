use Rattle.std.proofs.Common.{sym, subst}
use Rattle.pana_scan.specs.Listing.{RowsRise, IsAbove}
use Rattle.pana_scan.proofs.Listed.{pushed_rise}
use Rattle.pana_scan.proofs.listing.Listing.push.Goals as goal

pub invariant_of-self-2 : goal.invariant_of-self-2
invariant_of-self-2 c =
    subst RowsRise (sym c.in_ok-push.ensures.items)
    (pushed_rise c.self.inside.rows.items _ c.self.invariant (subst (λ it. IsAbove it.rows c.args.path) (sym c.self.view_is) c.requires))
