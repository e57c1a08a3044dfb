use Rattle.std.specs.Prelude.{IfSome, IfNone}
use Rattle.std.proofs.Common.{◌≡◌, refl, sym, subst, ◌∙◌}
use Rattle.pana_stamp.specs.Fill.{fill as fill_of}
use Rattle.pana_stamp.proofs.Calls.{filled_fill}
use Rattle.pana_stamp.proofs.filling.fill.Goals as goal

pub returns-in-Some-clause-filled : goal.returns-in-Some-clause-filled
returns-in-Some-clause-filled c =
    let is : c.in-Some.new ≡ fill_of c.args.id.now c.args.event.now = subst (λ new. IfSome new (λ new. new ≡ fill_of c.args.id.now c.args.event.now)) c.in-Some.is c.in_ok-new.ensures.tree in
    filled_fill _ _ _ _ _ _ refl refl refl is c.node.ensures.shallow

pub returns-in_ok-same-in-None-clause-filled : goal.returns-in_ok-same-in-None-clause-filled
returns-in_ok-same-in-None-clause-filled c =
    let is : fill_of c.args.id.now c.args.event.now ≡ c.args.event.now = subst (λ new. IfNone new (fill_of c.args.id.now c.args.event.now ≡ c.args.event.now)) c.in-None.is c.in_ok-new.ensures.same in
    filled_fill _ _ _ _ _ _ refl refl refl (c.in_ok-same-in-None.ensures ∙ sym is) c.node.ensures.shallow
