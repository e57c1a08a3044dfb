use Rattle.pana_hall.proofs.Words.{◌≡◌}
use Rattle.std.proofs.Common.{drop}
use Rattle.pana_event.specs.declared.rel.Rel.TheVariants as rels
use Rattle.pana_hall.specs.inner.Relatives.{first_number, relates_so}
use Rattle.pana_hall.proofs.relating.first_in_conflict.Given as goal

-- none of those before passes
abbrev pub invariant-loop-it : goal.invariant-loop-it
invariant-loop-it l = first_number (relates_so rels.Conflict l.copy) l.relatives ≡ first_number (relates_so rels.Conflict l.copy) (drop l.it-index l.relatives)
