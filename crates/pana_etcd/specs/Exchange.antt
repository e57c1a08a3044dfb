-- What is sent to a member.
use Rattle.std.specs.Prelude.{ℕ, List, ◌++◌, codes, decimal, length, Option, Some, None, []}

-- the line by which who has logged in is known, if anybody has
abbrev pub token_line : Option (List ℕ) → List ℕ
token_line None = []
token_line (Some token) = codes "authorization: " ++ (token ++ codes "\r\n")

-- a request that posts a body in JSON to a path of a host, with a token or without
unfoldable pub request_text : List ℕ → List ℕ → Option (List ℕ) → List ℕ → List ℕ
request_text host path token body =
    codes "POST " ++ (path ++ (codes " HTTP/1.1\r\nhost: " ++ (host ++ (codes "\r\n" ++ (token_line token ++ (codes "content-type: application/json\r\ncontent-length: "
    ++ (decimal (length body) ++ (codes "\r\n\r\n" ++ body))))))))
