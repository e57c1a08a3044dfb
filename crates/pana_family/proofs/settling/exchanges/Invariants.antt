use Rattle.pana_family.proofs.Words.{◌≡◌, exchanged_all, planned}
use Rattle.pana_family.proofs.Planned.{halfway}
use Rattle.pana_family.proofs.settling.exchanges.Given as goal

abbrev pub invariant-loop-row : goal.invariant-loop-row
invariant-loop-row l = exchanged_all l.news.items l.rows ≡ halfway (planned l.entry l.plan l.rows) l.rows l.row-index
