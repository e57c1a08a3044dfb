use Rattle.pana_family.proofs.Words.{take, IsValid, IsSound, StampRow, In}
use Rattle.pana_family.proofs.stamps.all_valid.Given as goal

abbrev pub invariant-loop-row : goal.invariant-loop-row
invariant-loop-row l = (r : StampRow) → In r (take l.row-index l.rows) → IsValid r.stamp.id × IsSound r.stamp.event
