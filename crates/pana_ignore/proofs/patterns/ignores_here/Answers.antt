use Rattle.std.proofs.Common.{◌≡◌, [], drop, sym, ◌∙◌, ap, arith}
use Rattle.std.proofs.Math.ListN.{drop_of_length-le}
use Rattle.pana_ignore.specs.Pattern.{applies}
use Rattle.pana_ignore.specs.inner.Verdicts.{verdict}
use Rattle.pana_ignore.proofs.Verdicts.{decided-verdict}
use Rattle.pana_ignore.proofs.patterns.ignores_here.Goals as goal

pub returns : goal.returns
returns c =
    let test = applies c.args.path.now c.args.is_folder in
    let none : drop c.loop-pattern.pattern-index c.args.patterns.now ≡ [] = drop_of_length-le c.args.patterns.now (omega arith) in
    sym (decided-verdict test c.args.patterns.now ∙ c.loop-pattern.invariant ∙ ap (verdict test c.loop-pattern.is_ignored) none)
