use Rattle.std.proofs.Common.{ℕ, Option, is_some, sym, ap, ◌∙◌}
use Rattle.pana_hall.specs.Living.{Copy}
use Rattle.pana_history.specs.History.{drawn_in, history_by}
use Rattle.pana_history.specs.Rows.{rows_of}
use Rattle.pana_history.proofs.Explained.{there}
use Rattle.pana_history.proofs.history.history_at.Goals as goal

pub returns-in_ok-drawn-in-Some : goal.returns-in_ok-drawn-in-Some
returns-in_ok-drawn-in-Some c =
    let place = c.args.place.now in
    let here = there c.args.journal place c.in-Some.standing c.requires.accepted (sym c.in-Some.is ∙ c.requires.standing) in
    record {
      text =
          c.in_ok-drawn-in-Some.ensures ∙ ap (λ (family : ℕ). drawn_in c.args.form (rows_of c.args.journal family)) here.family
          ∙ sym (ap (history_by c.args.journal place c.args.form) here.found);
      known = sym (ap (λ (o : Option Copy). is_some o) here.found);
    }
