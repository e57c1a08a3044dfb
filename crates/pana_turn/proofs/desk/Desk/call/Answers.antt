use Rattle.std.proofs.Common.{[], length, arith, ap, sym, ◌∙◌}
use Rattle.pana_turn.specs.History.{calls_of}
use Rattle.pana_turn.specs.Passes.{DeskId}
use Rattle.pana_turn.proofs.Calling.{makes_call}
use Rattle.pana_turn.proofs.Looking.{tests}
use Rattle.pana_turn.proofs.desk.Desk.call.Goals as goal

pub load-requires : goal.load-requires
load-requires g c = (
  ap (λ p. p.desk.table) c.pass.view_is ∙ ap (λ (d : DeskId _). d.table) c.requires ∙ sym (ap (λ d. d.id.table) c.self.view_is),
  (let words = c.self.invariant.words in omega arith),
  tests _ _ _ _ (ap (λ me. me.0.stage) c.pass.invariant) (ap (λ me. length me.0.accounts) c.pass.invariant),
)

pub returns-clause-done : goal.returns-clause-done
returns-clause-done g c =
    let number = c.pass.inside.number in
    let old = c.pass.inside.seat.me.0.seen in
    let looked = c.load.ensures.2.0 (omega arith) in
    let own = looked.own c.pass.inside.key.value.begun number (calls_of number old) [] (ap (λ me. me.0.accounts) c.pass.invariant) in
    let turn = c.take_turn-machine.ensures.looked in
    makes_call _ _ _ _ c.make-reply.new.self number old _ _ c.of-asked.result.value (ap (λ p. p.number) c.pass.view_is) (ap (λ p. p.seen) c.pass.view_is) looked.seen turn.seen own turn.own c.of-asked.ensures
    (ap (λ me. me.0.seen) c.give_turn.ensures.finished)
