use Rattle.pana_family.proofs.Words.{nat_tests, arith, ◌≡◌, ◌∙◌, ap, ℕ, List, [], ◌∷◌, ◌++◌, Id, leaf, Stamp, StampRow, seed_row, stamp, row, one_id}
use Rattle.pana_family.proofs.Keeps.{seed_kept}
use Rattle.pana_family.proofs.family.Family.new.Goals as goal

seeded : (entry : ℕ) (s : Stamp) (old new : List StampRow) → s.id ≡ one_id → s.event ≡ leaf 0 → old ≡ [] → new ≡ old ++ row entry s entry ∷ [] → new ≡ seed_row entry ∷ []
seeded entry s old new owner event none is =
    is ∙ ap (λ (l : List StampRow). l ++ row entry s entry ∷ []) none ∙ ap (λ (i : Id). row entry (stamp i s.event) entry ∷ []) owner ∙ ap (λ e. row entry (stamp one_id e) entry ∷ []) event

pub of_rows-requires : goal.of_rows-requires
of_rows-requires c = grind (arith, nat_tests, seeded, seed_kept)

pub returns : goal.returns
returns c = grind (arith, nat_tests, seeded)
