-- The bytes of a sum, of which its text is written.
use Rattle.std.specs.Prelude.{◌≡◌, ℕ, true, List, Ok}
use Rattle.hex.specs.Hex.{decode_sized, encode_lower}
use Rattle.pana_copies.specs.Sums.{is_sum}

-- 32 bytes whose text is a sum
pub record AreSumBytes (bytes : List ℕ) : Type 0 where
  pub sum : is_sum (encode_lower bytes) ≡ true
  pub back : decode_sized (encode_lower bytes) 32 ≡ Ok bytes
