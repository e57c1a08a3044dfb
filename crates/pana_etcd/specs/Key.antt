-- Keys: a log's name, and a record's number with ten digits at least.
use Rattle.std.specs.Prelude.{ℕ, ◌-◌, List, ◌++◌, codes, decimal, length, replicate}
use Rattle.base64.specs.GeneralPurpose.{encode_of}
use Rattle.base64.specs.Engines.{standard}

-- the number's digits, with zeros before them where they are fewer than ten
unfoldable pub ten_digits : ℕ → List ℕ
ten_digits number = replicate (10 - length (decimal number)) 48 ++ decimal number

-- the key of a record
unfoldable pub key_of : List ℕ → ℕ → List ℕ
key_of name number = name ++ (codes "/" ++ ten_digits number)

-- where the keys of a log end
unfoldable pub end_of : List ℕ → List ℕ
end_of name = name ++ codes "0"

-- bytes, as they stand in a request and in an answer
unfoldable pub in_base64 : List ℕ → List ℕ
in_base64 bytes = encode_of standard bytes
