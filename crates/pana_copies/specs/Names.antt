-- The texts that are names of devices, and those that are paths of copies.
use Rattle.std.specs.Prelude.{ℕ, Bool, not, ◌&&◌, ◌||◌, ◌==◌, nat_le, List, length}
use Rattle.std.specs.List.{list_all, before_first}

-- a byte of a device's name: a to z, 0 to 9, a dash or an underscore
abbrev pub is_device_byte : ℕ → Bool
is_device_byte b = nat_le 97 b && nat_le b 122 || nat_le 48 b && nat_le b 57 || b == 45 || b == 95

-- the name of a device: 1 to 32 such bytes
abbrev pub is_device : List ℕ → Bool
is_device text = nat_le 1 (length text) && nat_le (length text) 32 && list_all is_device_byte text

-- the bytes that stand before the first zero, or all where there is none: a name of less than 32 bytes is kept with zeros after it
abbrev pub before_zeros : List ℕ → List ℕ
before_zeros bytes = before_first (λ b. b == 0) bytes

-- a byte of a path: of a text in UTF-8 it is below 32, or 127, just where it stands for such a character by itself
abbrev pub is_path_byte : ℕ → Bool
is_path_byte b = nat_le 32 b && not (b == 127)

-- the path of a copy: 1 to 1,024 such bytes
abbrev pub is_path : List ℕ → Bool
is_path text = nat_le 1 (length text) && nat_le (length text) 1024 && list_all is_path_byte text
