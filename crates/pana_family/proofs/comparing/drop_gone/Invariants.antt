use Rattle.pana_family.proofs.Words.{◌≡◌, List, ℕ, drop, map, number_of, IsFollowed, most}
use Rattle.pana_family.proofs.comparing.drop_gone.Given as goal

abbrev pub invariant-loop-new : goal.invariant-loop-new
invariant-loop-new l = record {
  followed : (coming but : List ℕ) → IsFollowed (map number_of l.news) coming but l.rows l.initial.pairs → IsFollowed (drop l.new-index (map number_of l.news)) coming but l.rows l.pairs;
  room : most l.pairs ≡ most l.initial.pairs;
}
