-- Texts of requests, of their parts.
use Rattle.std.specs.Prelude.{◌≡◌, ℕ, List, ◌++◌, codes, decimal, length, Option}
use Rattle.std.proofs.Common.{refl}
use Rattle.pana_etcd.specs.Exchange.{request_text, token_line}
use Rattle.pana_etcd.specs.Key.{end_of, in_base64, key_of}
use Rattle.pana_etcd.specs.Request.{append_text, free_text, next_text, puts_text, range_text}

pub append_pieces : (name : List ℕ) (number : ℕ) (values : List (List ℕ)) (next puts range : List ℕ)
    → next ≡ next_text name number → puts ≡ puts_text name number values → range ≡ range_text name number
    → codes "{\"compare\":[" ++ (next ++ (codes "],\"success\":[" ++ (puts ++ (codes "],\"failure\":[{\"requestRange\":" ++ (range ++ codes "}]}")))))
    ≡ append_text name number values
unfolding append_text
append_pieces name number values next puts range first second third = rw (first, second, third) refl

pub free_pieces : (name : List ℕ) (number : ℕ) (key end : List ℕ)
    → key ≡ in_base64 (key_of name number) → end ≡ in_base64 (end_of name)
    → codes "{\"key\":\"" ++ (key ++ (codes "\",\"range_end\":\"" ++ (end ++ codes "\",\"target\":\"CREATE\",\"result\":\"EQUAL\",\"createRevision\":\"0\"}")))
    ≡ free_text name number
unfolding free_text
free_pieces name number key end first second = rw (first, second) refl

pub request_pieces : (host path : List ℕ) (token : Option (List ℕ)) (body line : List ℕ) → line ≡ token_line token
    → codes "POST " ++ (path ++ (codes " HTTP/1.1\r\nhost: " ++ (host ++ (codes "\r\n" ++ (line ++ (codes "content-type: application/json\r\ncontent-length: " ++ (decimal (length body) ++ (codes "\r\n\r\n" ++ body))))))))
    ≡ request_text host path token body
unfolding request_text
request_pieces host path token body line is = rw is refl
