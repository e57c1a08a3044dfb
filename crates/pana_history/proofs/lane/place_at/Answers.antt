use Rattle.std.proofs.Common.{◌==◌, Option, option_and_then, sym, ap, ◌∙◌}
use Rattle.pana_hall.proofs.Words.{eq-eqb, ne_eqb}
use Rattle.pana_history.specs.declared.lane.Lane.{Lane}
use Rattle.pana_history.proofs.Found.{is_there, not_there}
use Rattle.pana_history.proofs.lane.place_at.Goals as goal

pub returns-then-lane-number : goal.returns-then-lane-number
returns-then-lane-number c =
    let lane = c.lane-item.result in
    let found = is_there (λ (l : Lane). l.copy == c.args.number) c.args.lanes.now c.loop-lane.lane-index lane c.loop-lane-test.true c.lane-item.is c.loop-lane.invariant (eq-eqb lane.copy c.args.number c.if-lane-number.true) in
    c.as_ref.ensures.value ∙ sym (ap (λ (o : Option Lane). option_and_then (λ l. l.place) o) found)

pub loop-lane-preserved : goal.loop-lane-preserved
loop-lane-preserved c =
    let lane = c.lane-item.result in
    not_there (λ (l : Lane). l.copy == c.args.number) c.args.lanes.now c.loop-lane.lane-index lane c.loop-lane-test.true c.lane-item.is c.loop-lane.invariant (ne_eqb lane.copy c.args.number c.if-lane-number.false)
