use Rattle.std.proofs.Common.{ap, subst, sym, ◌∙◌, arith, length}
use Rattle.std.proofs.lemmas.List.{take_all}
use Rattle.pana_calls.specs.Holdings.{HaveOwnPaths}
use Rattle.pana_track.specs.Ignored.{is_tracked, tracked}
use Rattle.pana_track.proofs.Apart.{left_apart}
use Rattle.pana_track.proofs.tracking.tracked.Goals as goal

pub from_vec-requires : goal.from_vec-requires
from_vec-requires c =
    let whole = c.loop-copy.invariant ∙ ap (tracked c.args.patterns.now) (take_all c.loop-copy.copy-index c.args.holdings.now (omega (arith, ap length c.as_slice-copy-items.ensures.holdings))) in
    subst HaveOwnPaths (sym whole) (left_apart (is_tracked c.args.patterns.now) c.args.holdings.now c.as_slice-copy-items.ensures.apart)
