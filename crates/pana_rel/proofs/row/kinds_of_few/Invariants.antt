use Rattle.std.proofs.Common.{◌≡◌, count_by, take}
use Rattle.pana_event.specs.declared.rel.Rel.TheVariants.{Equal, Older, Newer}
use Rattle.pana_rel.specs.Board.{is_rel}
use Rattle.pana_rel.proofs.row.kinds_of_few.Given as goal

abbrev pub invariant-loop-rel : goal.invariant-loop-rel
invariant-loop-rel l = record {
  older : l.older ≡ count_by (λ rel. is_rel rel Older) (take l.rel-index l.rels);
  newer : l.newer ≡ count_by (λ rel. is_rel rel Newer) (take l.rel-index l.rels);
  equal : l.equal ≡ count_by (λ rel. is_rel rel Equal) (take l.rel-index l.rels);
}
