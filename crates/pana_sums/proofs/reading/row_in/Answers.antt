use Rattle.std.proofs.Common.{rules}
use Rattle.pana_sums.specs.inner.Records.{row_in}
use Rattle.pana_sums.proofs.reading.row_in.Goals as goal

pub returns : goal.returns
unfolding row_in
returns c = search rules
