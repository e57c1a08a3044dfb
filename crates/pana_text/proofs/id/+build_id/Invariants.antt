use Rattle.pana_text.proofs.id.+build_id.Given as goal

abbrev pub decreases-build_id : goal.decreases-build_id
decreases-build_id l = l.deeper
