use Rattle.pana_hall.proofs.Words.{living}
use Rattle.pana_hall.proofs.Related.{RowsTo}
use Rattle.pana_hall.proofs.state.State.status_rows.Given as goal

abbrev pub invariant-loop-earlier : goal.invariant-loop-earlier
invariant-loop-earlier l = RowsTo (living l.self.journal.entries) l.device l.from l.earlier l.rows.items
