use Rattle.std.proofs.Common.{sym, ap, ap₂, ◌∙◌}
use Rattle.pana_id.specs.Id.{pair, parts}
use Rattle.pana_id.specs.Node.{tree}
use Rattle.pana_id.proofs.Nodes.{some_node, parts_of_left, parts_of_both}
use Rattle.pana_id.proofs.node.+divide_off.Goals as goal

pub Halves::split_into-returns-in_ok-second-in_default-Zero : goal.Halves::split_into-returns-in_ok-second-in_default-Zero
Halves::split_into-returns-in_ok-second-in_default-Zero t c =
    record {
      ok =
          parts_of_left _ _ _ _ _ (some_node _ c.in_default-Zero.not-Zero-0) c.in_ok-second-in_default-Zero.ensures.ok
          (ap (λ r. pair (tree c.split_off-in_default-Zero.new.self) (tree r)) c.in_default-Zero.is-1)
          (ap (λ r. pair (tree c.in_ok-second-in_default-Zero.field-0) r) c.requires.1)
          ∙ sym (ap (λ r. parts (pair (tree c.args.self.now.left) (tree r))) c.in_default-Zero.is-1);
      err = tt;
    }

pub Halves::split_into-returns-in_default : goal.Halves::split_into-returns-in_default
Halves::split_into-returns-in_default t c =
    record {
      ok =
          parts_of_both _ _ _ _ (some_node _ c.in_default.not-Zero-0) (some_node _ c.in_default.not-Zero-1)
          (ap (λ n. pair (tree c.args.self.now.left) (tree n)) c.replace.ensures.after)
          (ap₂ pair c.requires.0 (ap tree c.replace.ensures.value));
      err = tt;
    }
