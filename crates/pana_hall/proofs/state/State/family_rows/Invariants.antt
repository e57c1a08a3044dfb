use Rattle.pana_hall.proofs.Words.{◌≡◌, map, filter, take, list_any, is_of, living, family_row, listed}
use Rattle.pana_hall.proofs.state.State.family_rows.Given as goal

abbrev pub invariant-loop-it : goal.invariant-loop-it
invariant-loop-it l = l.rows.items ≡ map (family_row (living l.self.journal.entries)) (filter (λ family. list_any (is_of family) (living l.self.journal.entries)) (map (λ it. (listed it).number) (take l.it-index l.self.families.list.items)))
