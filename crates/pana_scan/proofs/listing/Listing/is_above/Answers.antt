use Rattle.std.proofs.Common.{ap, ◌∙◌}
use Rattle.pana_scan.proofs.Listed.{above_answers}
use Rattle.pana_scan.proofs.listing.Listing.is_above.Goals as goal

pub returns-in-Some : goal.returns-in-Some
returns-in-Some c =
    let there = c.in-Some.ensures.item in
    above_answers c.deref.result.now c.args.self.now.rows c.in-Some.last.now c.args.path.now _ _ _ (c.deref.ensures.value ∙ ap (λ it. it.rows) c.self.view_is)
    there.3.0 there.1 c.as_str.ensures.text c.as_str-in-Some.ensures.text c.lt.ensures
