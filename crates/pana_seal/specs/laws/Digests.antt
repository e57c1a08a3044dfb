-- What a digest says of the file before it.
use Rattle.std.specs.Prelude.{◌≡◌, ◌≢◌, ◌⊎◌, true, List, ℕ, ◌++◌}
use Rattle.hex.specs.Hex.{encode_lower}
use Rattle.sha2.specs.Sha256.{sha256}
use Rattle.pana_seal.specs.Seal.{is_sealed, body_of, end_of}

-- two texts are at hand that differ, and whose SHA-256 has the same hexadecimal digits
abbrev pub IsCollision : Type 0
IsCollision = (a : List ℕ) × (b : List ℕ) × (a ≢ b) × (encode_lower (sha256 a) ≡ encode_lower (sha256 b))

-- two sealed lines with the same seal stand behind the same bytes and begin with the same: else there is a collision
abbrev pub SameSealSameBytes : Type 0
SameSealSameBytes = (before other line second : List ℕ) → is_sealed before line ≡ true → is_sealed other second ≡ true → end_of line ≡ end_of second → (before ++ body_of line ≡ other ++ body_of second) ⊎ IsCollision
