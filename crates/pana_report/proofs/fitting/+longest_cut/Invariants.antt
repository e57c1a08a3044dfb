use Rattle.pana_report.proofs.fitting.+longest_cut.Given as goal

abbrev pub decreases-longest_cut : goal.decreases-longest_cut
decreases-longest_cut l = l.kept
