use Rattle.pana_family.proofs.Words.{◌≡◌, [], drop, map, number_of, IsFollowed, most}
use Rattle.pana_family.proofs.comparing.put_coming.Given as goal

abbrev pub invariant-loop-new : goal.invariant-loop-new
invariant-loop-new l = record {
  followed : IsFollowed [] (drop l.new-index (map number_of l.news)) (map number_of l.news) l.rows l.pairs;
  room : most l.pairs ≡ most l.initial.pairs;
}
