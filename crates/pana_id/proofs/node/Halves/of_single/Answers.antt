use Rattle.pana_id.proofs.Numbered.{left_single, right_single}
use Rattle.std.proofs.Common.{sym, ap, ◌∙◌}
use Rattle.pana_id.specs.Id.{Id, pair, zero_id}
use Rattle.pana_id.proofs.node.Halves.of_single.Goals as goal

pub returns-then-number-eq0 : goal.returns-then-number-eq0
returns-then-number-eq0 c =
    ap (λ (half : Id). pair half zero_id) c.of_place-half.ensures ∙ sym (left_single _ c.ranges.number.fits c.if-number-eq0.true)

pub returns-else-number-eq0 : goal.returns-else-number-eq0
returns-else-number-eq0 c =
    ap (λ (half : Id). pair zero_id half) c.of_place-half.ensures ∙ sym (right_single _ c.ranges.number.fits c.if-number-eq0.false)
