use Rattle.std.proofs.Common.{rules}
use Rattle.json.proofs.Printed.Decimals.{IsNumber-decimal}
use Rattle.pana_wire.proofs.json_writing.write_count.Goals as goal

pub number-requires : goal.number-requires
number-requires c = rw c.in-Some.ensures (IsNumber-decimal c.args.count (search rules))
