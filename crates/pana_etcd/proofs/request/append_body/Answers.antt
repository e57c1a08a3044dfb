-- The values are those that were made of the records.
use Rattle.std.proofs.Common.{map, arith}
use Rattle.std.proofs.lemmas.Grind.{common_steps}
use Rattle.pana_etcd.proofs.request.append_body.Goals as goal

pub returns-in-Ok : goal.returns-in-Ok
returns-in-Ok c = (map (λ value. value.items) c.in_ok-values.values.items, c.in_ok-values.ensures.says, grind (arith, common_steps))
