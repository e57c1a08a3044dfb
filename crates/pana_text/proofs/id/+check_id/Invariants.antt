use Rattle.pana_text.proofs.id.+check_id.Given as goal

abbrev pub decreases-check_id : goal.decreases-check_id
decreases-check_id l = l.deeper
