use Rattle.std.proofs.Common.{◌≡◌, ◌+◌, count_by, length}
use Rattle.pana_event.specs.declared.rel.Rel.TheVariants.{Equal, Older, Newer}
use Rattle.pana_rel.specs.Board.{is_rel}
use Rattle.pana_rel.proofs.row.Row.counts.Given as goal

abbrev pub invariant-loop-rest : goal.invariant-loop-rest
invariant-loop-rest l = record {
  older : l.older + count_by (λ rel. is_rel rel Older) l.rest ≡ count_by (λ rel. is_rel rel Older) l.self.items;
  newer : l.newer + count_by (λ rel. is_rel rel Newer) l.rest ≡ count_by (λ rel. is_rel rel Newer) l.self.items;
  equal : l.equal + count_by (λ rel. is_rel rel Equal) l.rest ≡ count_by (λ rel. is_rel rel Equal) l.self.items;
}

abbrev pub decreases-loop-rest : goal.decreases-loop-rest
decreases-loop-rest l = length l.rest
