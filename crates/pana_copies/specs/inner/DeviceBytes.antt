-- The bytes in which a device's name is kept.
use Rattle.std.specs.Prelude.{◌≡◌, ℕ, true, List, ◌++◌, length, drop, replicate}
use Rattle.pana_copies.specs.Names.{is_device, before_zeros}

-- a name in 32 bytes, zeros after it
abbrev pub with_zeros : List ℕ → List ℕ
with_zeros name = name ++ drop (length name) (replicate 32 0)

-- 32 bytes that have a name, and zeros after it
pub record AreDeviceBytes (bytes : List ℕ) : Type 0 where
  pub name : is_device (before_zeros bytes) ≡ true
  pub padded : bytes ≡ with_zeros (before_zeros bytes)
