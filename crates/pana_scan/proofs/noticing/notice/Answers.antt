use Rattle.std.proofs.Common.{◌≡◌, refl, sym, ap, ◌∙◌, subst, ◌++◌, []}
use Rattle.pana_scan.specs.Listing.{RowsRise}
use Rattle.pana_scan.specs.Notice.{absent_of, files_of, found, left, missing, new_files_of, renamed}
use Rattle.pana_scan.specs.Plan.{at_paths}
use Rattle.pana_scan.specs.inner.Left.{HoldingsRise}
use Rattle.pana_scan.specs.inner.Seen.{all_files, new_files}
use Rattle.pana_scan.proofs.Merged.{lent}
use Rattle.pana_scan.proofs.Order.{nothing_rises}
use Rattle.pana_scan.proofs.Planned.{finished, whole}
use Rattle.pana_scan.proofs.noticing.notice.Goals as goal

pub loop-spot-init : goal.loop-spot-init
loop-spot-init c = (
  (subst RowsRise (sym c.rows.ensures.rows) c.rows.ensures.rise, nothing_rises, subst (λ living. HoldingsRise (lent living)) (sym c.as_slice-2.ensures.value) c.in_ok-living.ensures.rise),
  (λ i. all_files (c.new-seen.ensures.files i) ++ files_of (at_paths c.rows.result.now [] (lent c.as_slice-2.result.now))),
  (λ i. new_files (c.new-seen.ensures.files i) ++ new_files_of (at_paths c.rows.result.now [] (lent c.as_slice-2.result.now))),
  (λ i. lent (c.new-seen.ensures.absent i) ++ absent_of (at_paths c.rows.result.now [] (lent c.as_slice-2.result.now))),
)

pub returns : goal.returns
returns c =
    let known = at_paths c.args.listing.now.rows [] c.args.holdings.now in
    let all = whole _ c.args.listing.now.rows [] [] _ c.in_ok-living.living.items _ c.args.holdings.now
    c.rows.ensures.rows refl c.as_slice-2.ensures.value c.as_slice.ensures.holdings c.in_ok-living.ensures.same in
    let files : all_files c.loop-spot.seen.files.items ≡ files_of known = finished files_of _ _ _ _ refl c.in_default.ensures.none c.loop-spot.invariant.1 all in
    let new : new_files c.loop-spot.seen.files.items ≡ new_files_of known = finished new_files_of _ _ _ _ refl c.in_default.ensures.none c.loop-spot.invariant.2 all in
    let absent : lent c.loop-spot.seen.absent.items ≡ absent_of known = finished absent_of _ _ _ _ refl c.in_default.ensures.none c.loop-spot.invariant.3 all in
    let first = c.in_ok-notices.ensures ∙ (λ i. renamed ((ap new_files c.as_slice-3.ensures.value ∙ new) i) ((ap lent c.as_slice-4.ensures.value ∙ absent) i)) in
    let second = c.in_ok-found.ensures ∙ ap found files in
    let third = c.in_ok-missing.ensures ∙ (λ i. missing (left ((ap new_files c.as_slice-5.ensures.value ∙ new) i) ((ap lent c.as_slice-6.ensures.value ∙ absent) i))) in
    c.from_vec.ensures ∙ c.in_ok-append-2.ensures.items ∙ (λ i. (c.in_ok-append.ensures.items ∙ (λ j. first j ++ second j)) i ++ third i)
