use Rattle.pana_hall.proofs.Words.{◌≡◌, filter_map, take, holding_in, living}
use Rattle.pana_hall.proofs.state.State.holdings_of.Given as goal

abbrev pub invariant-loop-number : goal.invariant-loop-number
invariant-loop-number l = l.made.items ≡ filter_map (holding_in (living l.self.journal.entries) l.device) (take l.number-index l.numbers)
