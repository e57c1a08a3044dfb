use Rattle.std.proofs.Common.{◌≡◌, sym, ap, subst, ◌∙◌}
use Rattle.pana_event.specs.Shape.{tree as event_of}
use Rattle.pana_id.specs.Node.{tree as id_of}
use Rattle.pana_stamp.specs.Fill.{fill as fill_of}
use Rattle.pana_stamp.specs.inner.Renewed.{Differs, new_or}
use Rattle.pana_stamp.proofs.Calls.{sound_fill, raised_fill}
use Rattle.pana_stamp.proofs.filling.filled.Goals as goal
use Rattle.pana_stamp.proofs.filling.filled.Goals.{In-Some}

made : (c : In-Some) → event_of c.in-Some.node ≡ fill_of (id_of c.node-root.result.now) (event_of c.node-event_root.result.now)
made c =
    sym (ap (λ new. new_or new (event_of c.node-event_root.result.now)) c.in-Some.is) ∙ c.in_ok-node.ensures.tree

pub of_node-requires-clause-normal : goal.of_node-requires-clause-normal
of_node-requires-clause-normal c =
    (sound_fill _ _ _ _ _ c.node-root.ensures.same c.node-event_root.ensures.same (made c) c.node-event_root.ensures.normal c.node-event_root.ensures.shallow c.node-event_root.ensures.fits).normal

pub of_node-requires-clause-shallow : goal.of_node-requires-clause-shallow
of_node-requires-clause-shallow c =
    (sound_fill _ _ _ _ _ c.node-root.ensures.same c.node-event_root.ensures.same (made c) c.node-event_root.ensures.normal c.node-event_root.ensures.shallow c.node-event_root.ensures.fits).shallow

pub of_node-requires-clause-fits : goal.of_node-requires-clause-fits
of_node-requires-clause-fits c =
    (sound_fill _ _ _ _ _ c.node-root.ensures.same c.node-event_root.ensures.same (made c) c.node-event_root.ensures.normal c.node-event_root.ensures.shallow c.node-event_root.ensures.fits).fits

pub returns-in-Some-clause-raised : goal.returns-in-Some-clause-raised
returns-in-Some-clause-raised c =
    let differs : event_of c.in-Some.node ≡ event_of c.node-event_root.result.now → ⊥ = subst (Differs (event_of c.node-event_root.result.now)) c.in-Some.is c.in_ok-node.ensures.changed in
    raised_fill _ _ _ _ _ _ c.node-root.ensures.same c.node-event_root.ensures.same (made c.before) c.of_node.ensures c.node-event_root.ensures.normal c.node-event_root.ensures.shallow (λ same. differs (sym c.of_node.ensures ∙ same ∙ sym c.node-event_root.ensures.same))
