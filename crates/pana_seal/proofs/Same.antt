-- Two sealed lines with the same seal.
use Rattle.std.proofs.Common.{◌≡◌, ◌⊎◌, inl, inr, ℕ, Bool, true, false, List, ◌++◌, take, drop, length, bytes_eq, refl, sym, ◌∙◌, ap, arith, append_assoc}
use Rattle.std.proofs.lemmas.List.{take_at, drop_at, length-append}
use Rattle.std.proofs.lemmas.Bool.Decides.{not_from_Decides}
use Rattle.std.proofs.lemmas.Slice.Eq.{bytes_eq-Decides}
use Rattle.hex.specs.Hex.{encode_lower, lower_digits}
use Rattle.hex.proofs.HexLemmas.{length-encode_with}
use Rattle.sha2.specs.Sha256.{sha256}
use Rattle.sha2.proofs.Facts256.{length-sha256}
use Rattle.pana_wire.specs.Seal.{mark, close, seal_with}
use Rattle.pana_seal.specs.Seal.{body_of, end_of, seal_of, digest_of}
use Rattle.pana_seal.specs.laws.Digests.{SameSealSameBytes, IsCollision}
use Rattle.pana_seal.proofs.Sealed.{same_bytes}

-- the digits in a seal
digits_in : (m : List ℕ) → take 64 (drop 11 (seal_with (sha256 m))) ≡ encode_lower (sha256 m)
digits_in m =
    let digits = encode_lower (sha256 m) in
    let long : length digits ≡ 64 = omega (arith, length-encode_with lower_digits (sha256 m), length-sha256 m) in
    ap (take 64) (drop_at mark (digits ++ close) 11 refl) ∙ take_at digits close 64 long

-- texts with the same end are the same before it
cut_end : (xs ys end : List ℕ) → xs ++ end ≡ ys ++ end → xs ≡ ys
cut_end xs ys end same =
    let long : length xs ≡ length ys = omega (arith, ap length same, length-append xs end, length-append ys end) in
    sym (take_at xs end (length xs) refl) ∙ ap (take (length xs)) same ∙ take_at ys end (length xs) (sym long)

either_way : (test : Bool) (before other body second : List ℕ) → test ≡ bytes_eq (before ++ (body ++ mark)) (other ++ (second ++ mark)) → encode_lower (digest_of before body) ≡ encode_lower (digest_of other second) → (before ++ body ≡ other ++ second) ⊎ IsCollision
either_way true before other body second is same =
    let whole : before ++ (body ++ mark) ≡ other ++ (second ++ mark) = same_bytes (before ++ (body ++ mark)) (other ++ (second ++ mark)) (sym is) in
    inl (cut_end (before ++ body) (other ++ second) mark (append_assoc before body mark ∙ whole ∙ sym (append_assoc other second mark)))
either_way false before other body second is same =
    inr (before ++ (body ++ mark), other ++ (second ++ mark), not_from_Decides _ (bytes_eq-Decides (before ++ (body ++ mark)) (other ++ (second ++ mark))) (sym is), same)

pub same_seal : SameSealSameBytes
same_seal before other line second first_sealed second_sealed same =
    let first : end_of line ≡ seal_of before (body_of line) = same_bytes (end_of line) (seal_of before (body_of line)) first_sealed in
    let last : end_of second ≡ seal_of other (body_of second) = same_bytes (end_of second) (seal_of other (body_of second)) second_sealed in
    let seals : seal_of before (body_of line) ≡ seal_of other (body_of second) = sym first ∙ same ∙ last in
    either_way (bytes_eq (before ++ (body_of line ++ mark)) (other ++ (body_of second ++ mark))) before other (body_of line) (body_of second) refl
    (sym (digits_in (before ++ (body_of line ++ mark))) ∙ ap (λ (s : List ℕ). take 64 (drop 11 s)) seals ∙ digits_in (other ++ (body_of second ++ mark)))
