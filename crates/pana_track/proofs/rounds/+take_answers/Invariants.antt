use Rattle.std.proofs.Common.{length}
use Rattle.pana_track.proofs.rounds.+take_answers.Given as goal

abbrev pub decreases-take_answers : goal.decreases-take_answers
decreases-take_answers l = length l.answers.now
