use Rattle.pana_family.proofs.Words.{take, ◌≡◌, ends, with_ids}
use Rattle.pana_family.proofs.settling.gathered.Given as goal

abbrev pub invariant-loop-other : goal.invariant-loop-other
invariant-loop-other l = l.id ≡ with_ids (ends l.from l.copy l.stamp.event) l.stamp.id (take l.other-index l.rows)
