-- Numbers with zeros before them.
use Rattle.std.specs.Prelude.{◌≡◌, ℕ, ◌-◌, List, [], ◌++◌, decimal, false, length, replicate}
use Rattle.std.specs.Fmt.{padded_integral, format_spec, char_count}
use Rattle.std.proofs.Common.{ap, arith, append-nil}
use Rattle.pana_etcd.specs.Key.{ten_digits}

bare : (l : ℕ) (digits : List ℕ) → replicate (10 - l - 0 - 0) 48 ++ (digits ++ []) ≡ replicate (10 - l) 48 ++ digits
bare l digits = let e : 10 - l - 0 - 0 ≡ 10 - l = omega arith in rw e (ap (λ tail. replicate (10 - l) 48 ++ tail) (append-nil digits))

-- what `{:010}` writes
pub padded_ten : (n : ℕ) → padded_integral (format_spec 32 0 4 10 18446744073709551615) false [] (decimal n) ≡ ten_digits n
unfolding padded_integral char_count ten_digits
padded_ten n = bare (length (decimal n)) (decimal n)
