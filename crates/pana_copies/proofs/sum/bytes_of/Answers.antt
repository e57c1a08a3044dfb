use Rattle.std.proofs.Common.{arith}
use Rattle.std.proofs.lemmas.Bool.Decides.{nat_tests}
use Rattle.pana_copies.proofs.Sums.{are_sum_bytes, sum_decoded}
use Rattle.pana_copies.proofs.sum.bytes_of.Goals as goal

pub unwrap-requires : goal.unwrap-requires
unwrap-requires c = grind (arith, nat_tests, sum_decoded, c.decode_to_slice.ensures.value, c.is_sum.ensures, c.if-not-is_sum.ensures)

pub returns-clause-text : goal.returns-clause-text
returns-clause-text c = grind (arith, nat_tests, sum_decoded, c.decode_to_slice.ensures.value, c.is_sum.ensures, c.if-not-is_sum.ensures)

pub returns-clause-bytes : goal.returns-clause-bytes
returns-clause-bytes c = grind (arith, nat_tests, sum_decoded, are_sum_bytes, c.decode_to_slice.ensures.value, c.is_sum.ensures, c.if-not-is_sum.ensures)
