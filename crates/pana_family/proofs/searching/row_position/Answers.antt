use Rattle.pana_family.proofs.Inverses.{search_found}
use Rattle.pana_family.proofs.searching.row_position.Goals as goal

pub returns : goal.returns
returns c =
    let found = search_found c.args.copy c.position_of.result c.args.rows.now c.requires c.position_of.ensures in
    record { some = found.0; none = found.1 }
