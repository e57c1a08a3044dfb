use Rattle.std.proofs.Common.{ℕ, None, Option, List, replicate, ap, ◌∙◌}
use Rattle.std.proofs.lemmas.List.{take_all}
use Rattle.pana_history.specs.inner.Withdrawals.{behind_all, withdrawal_in}
use Rattle.pana_history.proofs.Withdrawn.{all_noted}
use Rattle.pana_history.proofs.withdrawal.withdrawals_of.Goals as goal

pub returns : goal.returns
returns c = λ n some within.
    ap (λ (table : List (Option ℕ)). withdrawal_in table n)
    (c.loop-entry.invariant ∙ ap (behind_all (replicate c.args.last None)) (take_all c.loop-entry.entry-index c.args.own.now c.loop-entry-test.false))
    ∙ all_noted c.args.last c.args.own.now n some within
