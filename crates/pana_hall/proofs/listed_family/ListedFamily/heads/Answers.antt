use Rattle.std.proofs.Common.{rules, ◌≡◌, map}
use Rattle.pana_family.specs.Rows.{copy_rows}
use Rattle.pana_family.specs.declared.row.StampRow.{StampRow}
use Rattle.pana_hall.specs.inner.Listed.{listed}
use Rattle.pana_hall.proofs.Answered.{one_heads}
use Rattle.pana_hall.proofs.listed_family.ListedFamily.heads.Goals as goal

pub returns-in-Changed-clause-newest : goal.returns-in-Changed-clause-newest
returns-in-Changed-clause-newest c =
    let are : c.living.result.now ≡ map (λ (row : StampRow). row.copy) (copy_rows (listed c.args.self.now).rows) = search rules in
    λ table stands. (one_heads c.living.result.now (listed c.args.self.now).rows table stands are c.if-living-eq1.true).0

pub returns-in-Changed-clause-split : goal.returns-in-Changed-clause-split
returns-in-Changed-clause-split c =
    let are : c.living.result.now ≡ map (λ (row : StampRow). row.copy) (copy_rows (listed c.args.self.now).rows) = search rules in
    λ table stands. (one_heads c.living.result.now (listed c.args.self.now).rows table stands are c.if-living-eq1.true).1
