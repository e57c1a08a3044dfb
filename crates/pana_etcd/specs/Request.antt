-- The bodies of requests, in JSON.
use Rattle.std.specs.Prelude.{ℕ, ◌+◌, ◌-◌, nat_le, List, [], ◌∷◌, ◌++◌, if◌then◌else◌, codes}
use Rattle.pana_etcd.specs.Key.{end_of, in_base64, key_of}

-- what puts a value under the key of a number
unfoldable pub put_text : List ℕ → ℕ → List ℕ → List ℕ
put_text name number value =
    codes "{\"requestPut\":{\"key\":\"" ++ (in_base64 (key_of name number) ++ (codes "\",\"value\":\"" ++ (in_base64 value ++ codes "\"}}")))

-- what puts the values that come behind others, from this number on
abbrev pub later_puts : List ℕ → ℕ → List (List ℕ) → List ℕ
later_puts name number [] = []
later_puts name number (value ∷ values) = codes "," ++ (put_text name number value ++ later_puts name (number + 1) values)

-- what puts values from this number on
abbrev pub puts_text : List ℕ → ℕ → List (List ℕ) → List ℕ
puts_text name number [] = []
puts_text name number (value ∷ values) = put_text name number value ++ later_puts name (number + 1) values

-- what asks whether the key of a number was made
unfoldable pub made_text : List ℕ → ℕ → List ℕ
made_text name number =
    codes "{\"key\":\"" ++ (in_base64 (key_of name number) ++ codes "\",\"target\":\"CREATE\",\"result\":\"GREATER\",\"createRevision\":\"0\"}")

-- what asks whether none of the keys from a number on was
unfoldable pub free_text : List ℕ → ℕ → List ℕ
free_text name number =
    codes "{\"key\":\"" ++ (in_base64 (key_of name number) ++ (codes "\",\"range_end\":\"" ++ (in_base64 (end_of name) ++ codes "\",\"target\":\"CREATE\",\"result\":\"EQUAL\",\"createRevision\":\"0\"}")))

-- what asks whether the number is that of the next record: none stands there or behind, and one before it, unless it is the first
abbrev pub next_text : List ℕ → ℕ → List ℕ
next_text name number = if nat_le number 1 then free_text name number else made_text name (number - 1) ++ (codes "," ++ free_text name number)

-- the body of a question for a token, by which who logs in is known
unfoldable pub login_text : List ℕ → List ℕ → List ℕ
login_text user password = codes "{\"name\":\"" ++ (user ++ (codes "\",\"password\":\"" ++ (password ++ codes "\"}")))

-- the body of a question for the keys from a number on, 1,000 at most, in order
unfoldable pub range_text : List ℕ → ℕ → List ℕ
range_text name number =
    codes "{\"key\":\"" ++ (in_base64 (key_of name number) ++ (codes "\",\"range_end\":\"" ++ (in_base64 (end_of name) ++ codes "\",\"limit\":\"1000\"}")))

-- the body of a transaction: if the first number is that of the next record, put all of the values, and else answer the question for
-- what stands there
unfoldable pub append_text : List ℕ → ℕ → List (List ℕ) → List ℕ
append_text name number values =
    codes "{\"compare\":[" ++ (next_text name number ++ (codes "],\"success\":["
    ++ (puts_text name number values ++ (codes "],\"failure\":[{\"requestRange\":" ++ (range_text name number ++ codes "}]}")))))
