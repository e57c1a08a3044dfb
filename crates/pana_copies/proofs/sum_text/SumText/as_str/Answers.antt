use Rattle.std.proofs.Common.{rules}
use Rattle.pana_copies.proofs.SumDigits.{IsUtf8-from_is_sum}
use Rattle.pana_copies.proofs.sum_text.SumText.as_str.Goals as goal

pub from_utf8_unchecked-requires : goal.from_utf8_unchecked-requires
from_utf8_unchecked-requires c = search (rules, IsUtf8-from_is_sum)
