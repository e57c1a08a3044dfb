use Rattle.std.proofs.Common.{◌≡◌, sym, ◌∙◌, ◌++◌, subst}
use Rattle.pana_scan.specs.Baseline.{MarksRise}
use Rattle.pana_scan.specs.Plan.{at_paths, steps_for, rows_for}
use Rattle.pana_scan.proofs.Planned.{plan_rows_rise, whole}
use Rattle.pana_scan.proofs.planning.plan.Goals as goal

pub from_vec-requires-in-Ok : goal.from_vec-requires-in-Ok
from_vec-requires-in-Ok c =
    let device = c.args.listing.now.device in
    let all = whole _ c.args.listing.now.rows _ c.args.baseline.now _ c.in_ok-living.living.items _ c.args.holdings.now
    c.rows.ensures.rows c.rows-2.ensures.rows c.as_slice-2.ensures.value c.as_slice.ensures.holdings c.in_ok-living.ensures.same in
    let rows : c.fill-filled.new.self.rows.items ≡ rows_for device (at_paths c.args.listing.now.rows c.args.baseline.now c.args.holdings.now) =
    c.in-Ok.ensures.rows ∙ (λ i. c.new-draft.ensures.rows i ++ rows_for (c.device.ensures i) (all i)) in
    subst MarksRise (sym rows) (plan_rows_rise device c.args.listing.now.rows c.args.baseline.now c.args.holdings.now)

pub returns-in-Ok : goal.returns-in-Ok
returns-in-Ok c =
    let device = c.args.listing.now.device in
    let all = whole _ c.args.listing.now.rows _ c.args.baseline.now _ c.in_ok-living.living.items _ c.args.holdings.now
    c.rows.ensures.rows c.rows-2.ensures.rows c.as_slice-2.ensures.value c.as_slice.ensures.holdings c.in_ok-living.ensures.same in
    let steps : c.from_vec.result ≡ steps_for device (at_paths c.args.listing.now.rows c.args.baseline.now c.args.holdings.now) =
    c.from_vec.ensures ∙ c.in-Ok.ensures.steps ∙ (λ i. c.new-draft.ensures.steps i ++ steps_for (c.device.ensures i) (all i)) in
    let rows : c.from_vec-in-Ok.result ≡ rows_for device (at_paths c.args.listing.now.rows c.args.baseline.now c.args.holdings.now) =
    c.from_vec-in-Ok.ensures ∙ c.in-Ok.ensures.rows ∙ (λ i. c.new-draft.ensures.rows i ++ rows_for (c.device.ensures i) (all i)) in
    λ i. record { steps = steps i; baseline = rows i }
