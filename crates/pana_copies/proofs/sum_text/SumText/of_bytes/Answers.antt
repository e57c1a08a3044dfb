use Rattle.std.proofs.Common.{◌≡◌, true, sym, subst, rules}
use Rattle.hex.specs.Hex.{encode_lower}
use Rattle.pana_copies.specs.Sums.{is_sum}
use Rattle.pana_copies.proofs.Sums.{bytes_written}
use Rattle.pana_copies.proofs.sum_text.SumText.of_bytes.Goals as goal

pub invariant_of-result : goal.invariant_of-result
invariant_of-result c =
    let written : c.encode_to_slice.new.output ≡ encode_lower c.args.bytes.now = search rules in
    subst (λ digits. is_sum digits ≡ true) (sym written) (bytes_written c.args.bytes.now c.told-bytes c.fits-bytes).sum
