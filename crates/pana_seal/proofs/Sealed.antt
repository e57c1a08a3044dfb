-- A line that ends with its seal is sealed.
use Rattle.std.proofs.Common.{◌≡◌, ℕ, ◌-◌, true, List, ◌++◌, length, bytes_eq, sym, ◌∙◌, ap, subst, arith}
use Rattle.std.proofs.lemmas.List.{take_at, drop_at, length-append}
use Rattle.std.proofs.lemmas.Slice.Eq.{bytes_eq-Decides}
use Rattle.hex.specs.Hex.{encode_lower, lower_digits}
use Rattle.hex.proofs.HexLemmas.{length-encode_with}
use Rattle.sha2.proofs.Facts256.{length-sha256}
use Rattle.pana_wire.specs.Seal.{mark, close, seal_with}
use Rattle.pana_seal.specs.Seal.{digest_of, seal_of, end_of, body_of, is_sealed}

pub bytes_same : (xs ys : List ℕ) → xs ≡ ys → bytes_eq xs ys ≡ true
bytes_same xs ys same = (bytes_eq-Decides xs ys).1 same

pub same_bytes : (xs ys : List ℕ) → bytes_eq xs ys ≡ true → xs ≡ ys
same_bytes xs ys is = (bytes_eq-Decides xs ys).0 is

-- a seal has 77 bytes
pub seal_length : (before body : List ℕ) → length (seal_of before body) ≡ 77
seal_length before body =
    let digest = digest_of before body in
    omega (arith, length-append mark (encode_lower digest ++ close), length-append (encode_lower digest) close, length-encode_with lower_digits digest, length-sha256 (before ++ (body ++ mark)))

pub sealed_by : (before body digest : List ℕ) → digest ≡ digest_of before body → is_sealed before (body ++ seal_with digest) ≡ true
sealed_by before body digest is =
    let seal = seal_of before body in
    let line = body ++ seal in
    let start : length line - 77 ≡ length body = omega (arith, length-append body seal, seal_length before body) in
    let body_is : body_of line ≡ body = take_at body seal (length line - 77) (sym start) in
    let end_is : end_of line ≡ seal = drop_at body seal (length line - 77) (sym start) in
    subst (λ (d : List ℕ). is_sealed before (body ++ seal_with d) ≡ true) (sym is)
    (bytes_same (end_of line) (seal_of before (body_of line)) (end_is ∙ ap (seal_of before) (sym body_is)))
