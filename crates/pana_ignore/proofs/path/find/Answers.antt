use Rattle.std.proofs.Common.{sym, ◌∙◌}
use Rattle.pana_ignore.specs.Pattern.{is_path_match}
use Rattle.pana_ignore.proofs.PathRuns.{outcome-first}
use Rattle.pana_ignore.proofs.path.find.Goals as goal

pub returns-then-not-has_failed-clause-outcome : goal.returns-then-not-has_failed-clause-outcome
returns-then-not-has_failed-clause-outcome c =
    outcome-first (is_path_match c.args.parts.now) _ _ c.run-met.ensures.outcome c.run-met.ensures.later (sym c.has_failed.ensures ∙ c.if-not-has_failed.true) ∙ sym c.loop-rest.invariant
