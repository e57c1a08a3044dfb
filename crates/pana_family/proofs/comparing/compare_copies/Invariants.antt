use Rattle.pana_family.proofs.Words.{◌≡◌, drop, map, number_of, AreCompared, HasCopies, most}
use Rattle.pana_family.proofs.comparing.compare_copies.Given as goal

abbrev pub invariant-loop-new : goal.invariant-loop-new
invariant-loop-new l = record {
  copies : HasCopies l.rows l.pairs;
  rest : AreCompared (drop l.new-index (map number_of l.news)) l.rows l.pairs;
  room : most l.pairs ≡ most l.initial.pairs;
}
