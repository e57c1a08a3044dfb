use Rattle.std.proofs.Common.{◌≡◌, IfOk, sym, subst, ◌∙◌}
use Rattle.pana_id.specs.Node.{tree}
use Rattle.pana_id.proofs.Nodes.{norm_zero, norm_one, norm_else}
use Rattle.pana_id.proofs.node.Node.norm_of.Goals as goal

pub returns-then-are_zero : goal.returns-then-are_zero
returns-then-are_zero c = norm_zero _ _ (sym c.are_zero.ensures ∙ c.if-are_zero.true)

pub returns-then-are_one : goal.returns-then-are_one
returns-then-are_one c = norm_one _ _ (sym c.are_one.ensures ∙ c.if-are_one.true)

pub returns : goal.returns
returns c =
    subst (λ whole. IfOk c.pair_of.result (λ node. tree node ≡ whole))
    (sym (norm_else _ _ (sym c.are_zero.ensures ∙ c.if-are_zero.false) (sym c.are_one.ensures ∙ c.if-are_one.false)))
    c.pair_of.ensures
