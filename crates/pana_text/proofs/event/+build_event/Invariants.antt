use Rattle.pana_text.proofs.event.+build_event.Given as goal

abbrev pub decreases-build_event : goal.decreases-build_event
decreases-build_event l = l.deeper
