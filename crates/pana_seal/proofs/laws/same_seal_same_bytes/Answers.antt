use Rattle.pana_seal.proofs.Same.{same_seal}
use Rattle.pana_seal.proofs.laws.same_seal_same_bytes.Goals as goal

pub returns : goal.returns
returns c = same_seal
