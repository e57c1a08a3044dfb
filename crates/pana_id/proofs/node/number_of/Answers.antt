use Rattle.pana_id.proofs.Numbered.{left_number, right_number}
use Rattle.std.proofs.Common.{ap₂, sym, ◌∙◌}
use Rattle.pana_id.specs.Id.{pair}
use Rattle.pana_id.specs.Node.{tree}
use Rattle.pana_id.proofs.node.number_of.Goals as goal

pub returns-in-Zero-Single : goal.returns-in-Zero-Single
returns-in-Zero-Single c =
    right_number _ c.if-number-lt-MOST_NUMBER.true ∙ sym (ap₂ (λ a b. pair (tree a) (tree b)) c.in-Zero-Single.is-0 c.in-Zero-Single.is-1)

pub returns-in-Single-Zero : goal.returns-in-Single-Zero
returns-in-Single-Zero c =
    left_number _ c.if-number-lt-MOST_NUMBER-2.true ∙ sym (ap₂ (λ a b. pair (tree a) (tree b)) c.in-Single-Zero.is-0 c.in-Single-Zero.is-1)
