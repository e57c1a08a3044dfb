use Rattle.pana_copies.proofs.Sums.{bytes_written}
use Rattle.pana_copies.proofs.sum.spell.Goals as goal

pub returns-then-is_ok-clause-bytes : goal.returns-then-is_ok-clause-bytes
returns-then-is_ok-clause-bytes c = bytes_written c.args.bytes.now c.told-bytes c.fits-bytes

pub returns-else-is_ok-clause-bytes : goal.returns-else-is_ok-clause-bytes
returns-else-is_ok-clause-bytes c = bytes_written c.args.bytes.now c.told-bytes c.fits-bytes
