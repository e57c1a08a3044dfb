use Rattle.pana_hall.proofs.Words.{◌≡◌, append-nil, refl, sym, holding_in, living}
use Rattle.std.proofs.Common.{get_or}
use Rattle.pana_hall.proofs.Held.{held_more}
use Rattle.pana_hall.proofs.state.State.holdings_of.Goals as goal
use Rattle.pana_hall.proofs.state.State.holdings_of.Goals.{in-Some+in_ok-push, in_default}

pub loop-number-preserved : goal.loop-number-preserved
loop-number-preserved c =
    let held = holding_in (living c.args.self.now.journal.entries) c.args.device.now in
    let more = held_more held c.args.numbers.now c.loop-number.number-index 0 c.loop-number-test.true in
    let found : c.in_ok-holding.field-0 ≡ held (get_or c.args.numbers.now c.loop-number.number-index 0) = c.in_ok-holding.ensures in
    elim c.match-branch-3.branch [
      | in-Some+in_ok-push w ↦ rw (w.made-is, w.in_ok-push.ensures.items, c.loop-number.invariant, more, sym found, w.in-Some.is) refl
      | in_default w ↦ rw (w.made-is, c.loop-number.invariant, more, sym found, w.in_default.is) (sym (append-nil _))
    ]
