use Rattle.std.proofs.Common.{rules}
use Rattle.json.proofs.Printed.Decimals.{IsNumber-decimal}
use Rattle.pana_wire.proofs.json_writing.write_digits.Goals as goal

pub number-requires : goal.number-requires
number-requires c = rw c.format.ensures.text (IsNumber-decimal c.args.number (search rules))
