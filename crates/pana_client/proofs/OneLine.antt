-- Texts that are one line.
use Rattle.std.specs.Prelude.{◌≡◌, ◌≢◌, ℕ, ◌-◌, ◌==◌, ◌||◌, Bool, true, false, List, [], ◌∷◌, ◌++◌, length, take}
use Rattle.std.specs.List.{All, list_any}
use Rattle.std.specs.Io.{StopsAt}
use Rattle.std.proofs.Common.{refl, ap, ◌∙◌, subst, arith, length-append}
use Rattle.std.proofs.Math.Seq.{take-append_seam}
use Rattle.std.proofs.lemmas.Bool.{ne_eqb}
use Rattle.std.proofs.lemmas.List.Elements.{All-head, All-tail}
use Rattle.pana_wire.proofs.OneLine.{IsInLine, lines_one}
use Rattle.pana_client.specs.Line.{IsOneLine}

neither : (a b : Bool) → (a || b) ≡ false → (a ≡ false) × (b ≡ false)
neither true b none = absurd (cc)
neither false b none = (refl, none)

none_in_line : (bytes : List ℕ) → list_any (λ b. b == 10) bytes ≡ false → IsInLine bytes
none_in_line [] none = tt
none_in_line (b ∷ bytes) none =
    let both = neither (b == 10) (list_any (λ b. b == 10) bytes) none in
    (both.0, none_in_line bytes both.1)

-- no byte is a newline
pub none_one : (bytes : List ℕ) → list_any (λ b. b == 10) bytes ≡ false → IsOneLine bytes
none_one bytes none = lines_one bytes (none_in_line bytes none)

all_in_line : (bytes : List ℕ) → All (λ b. b ≢ 10) bytes → IsInLine bytes
all_in_line [] all = tt
all_in_line (b ∷ bytes) all =
    (ne_eqb b 10 (All-head (λ x. x ≢ 10) b bytes all), all_in_line bytes (All-tail (λ x. x ≢ 10) b bytes all))

-- no byte but the last is a newline
pub stops_one : (line : List ℕ) → StopsAt (line ++ 10 ∷ []) 10 → IsOneLine line
stops_one line stops =
    let before : take (length (line ++ 10 ∷ []) - 1) (line ++ 10 ∷ []) ≡ line = ap (λ n. take n (line ++ 10 ∷ [])) (omega (arith, length-append line (10 ∷ []))) ∙ take-append_seam line (10 ∷ []) in
    lines_one line (all_in_line line (subst (All (λ b. b ≢ 10)) before stops))
