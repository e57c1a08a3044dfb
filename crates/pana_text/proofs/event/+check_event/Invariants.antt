use Rattle.pana_text.proofs.event.+check_event.Given as goal

abbrev pub decreases-check_event : goal.decreases-check_event
decreases-check_event l = l.deeper
