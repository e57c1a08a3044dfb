use Rattle.std.proofs.Common.{◌≡◌, ◌∷◌, sym, ap, ◌∙◌, subst, rules, option_map, option_copied}
use Rattle.pana_scan.specs.Listing.{RowsRise}
use Rattle.pana_scan.specs.Baseline.{MarksRise}
use Rattle.pana_scan.specs.inner.Left.{HoldingsRise}
use Rattle.pana_scan.specs.Plan.{at_paths}
use Rattle.pana_scan.proofs.Merged.{lent, next_known, rest_lent_rise, found_rest_rise, kept_rest_rise}
use Rattle.pana_scan.proofs.merging.Sources.next.Goals as goal

pub returns-clause-rise : goal.returns-clause-rise
returns-clause-rise c =
    let p = c.in_ok-path.path.now in (
      subst RowsRise (sym c.take-found.ensures.rest) (found_rest_rise p c.args.self.now.found.now c.requires.0),
      subst MarksRise (sym c.take-kept.ensures.rest) (kept_rest_rise p c.args.self.now.kept.now c.requires.1),
      subst (λ living. HoldingsRise (lent living)) (sym c.take-living.ensures.rest) (rest_lent_rise p c.args.self.now.living.now c.requires.2),
    )

pub returns-clause-some : goal.returns-clause-some
returns-clause-some c =
    let p = c.in_ok-path.path.now in
    let found : c.map.result ≡ option_map (λ row. row.found) (option_copied c.take-found.result) = search rules in
    let mark : c.map-2.result ≡ option_map (λ row. row.mark) (option_copied c.take-kept.result) = search rules in
    next_known c.args.self.now.found.now c.args.self.now.kept.now c.args.self.now.living.now p c.requires.0 c.requires.1 c.requires.2 c.in_ok-path.ensures
    ∙ sym (λ i. record {
      path = p;
      found = (found ∙ ap (option_map (λ row. row.found)) c.take-found.ensures.row) i;
      mark = (mark ∙ ap (option_map (λ row. row.mark)) c.take-kept.ensures.row) i;
      living = ap option_copied (c.copied.ensures ∙ c.take-living.ensures.row) i;
    } ∷ at_paths (c.take-found.ensures.rest i) (c.take-kept.ensures.rest i) (lent (c.take-living.ensures.rest i)))
