use Rattle.std.proofs.Common.{sym, ◌∙◌}
use Rattle.pana_ignore.specs.Pattern.{is_name_match}
use Rattle.pana_ignore.proofs.NameRuns.{outcome-first}
use Rattle.pana_ignore.proofs.name.find.Goals as goal

pub returns-then-not-has_failed-clause-outcome : goal.returns-then-not-has_failed-clause-outcome
returns-then-not-has_failed-clause-outcome c =
    outcome-first (is_name_match c.args.pieces.now) _ _ c.run-met.ensures.outcome c.run-met.ensures.later (sym c.has_failed.ensures ∙ c.if-not-has_failed.true) ∙ sym c.loop-rest.invariant
