-- The texts that are sums of files.
use Rattle.std.specs.Prelude.{ℕ, Bool, ◌&&◌, ◌||◌, ◌==◌, nat_le, List, length}
use Rattle.std.specs.List.{list_all}

-- a digit of a sum: 0 to 9, or a to f
abbrev pub is_sum_digit : ℕ → Bool
is_sum_digit b = nat_le 48 b && nat_le b 57 || nat_le 97 b && nat_le b 102

-- a sum: 64 such digits
abbrev pub is_sum : List ℕ → Bool
is_sum text = length text == 64 && list_all is_sum_digit text
