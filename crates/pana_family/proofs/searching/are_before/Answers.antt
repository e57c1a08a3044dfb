use Rattle.std.proofs.Common.{sym, ◌∙◌}
use Rattle.pana_family.proofs.Searches.{all_before}
use Rattle.pana_family.proofs.searching.are_before.Goals as goal

pub returns : goal.returns
returns c =
    let is = all_before c.args.entry c.args.rows.now in
    ((λ t. is.0 (sym c.all_before.ensures ∙ t)), λ b. c.all_before.ensures ∙ is.1 b)
