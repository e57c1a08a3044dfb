use Rattle.std.proofs.Common.{subst}
use Rattle.memchr.specs.Find.{IsFirstByte, is_byte}
use Rattle.pana_copies.proofs.OnDevice.{byte_missing, byte_places}
use Rattle.pana_copies.proofs.copy_table.first_of.Goals as goal

pub returns-clause-some : goal.returns-clause-some
returns-clause-some c = byte_places c.args.byte c.args.bytes.now c.memchr.result c.memchr.ensures

pub returns-clause-none : goal.returns-clause-none
returns-clause-none c = λ none. byte_missing c.args.byte c.args.bytes.now (subst (IsFirstByte (is_byte c.args.byte) c.args.bytes.now) none c.memchr.ensures)
