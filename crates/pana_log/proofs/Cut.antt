-- The first line of a file ends at its first newline.
use Rattle.std.proofs.Common.{◌≡◌, ℕ, ◌+◌, ◌-◌, ◌<◌, ◌≤◌, suc, ◌==◌, true, false, cond, not, nat_lt, nat_eq, List, [], ◌∷◌, ◌++◌, length, take, drop, position, Some, None, refl, sym, ap, ◌∙◌, append-nil, length-drop, arith}
use Rattle.std.specs.List.{position_or_len, starts_with}
use Rattle.std.proofs.lemmas.Bool.{ltb-false, ltb-true}
use Rattle.std.proofs.lemmas.Bool.Decides.{nat_tests}
use Rattle.std.proofs.lemmas.List.{append_assoc, take_all, length-take}
use Rattle.std.proofs.lemmas.List.{length-append}
use Rattle.pana_log.specs.Lines.{opens, read_on, recovered, text_of}

abbrev newline_at : List ℕ → ℕ
newline_at text = position_or_len (λ b. b == 10) text

take_next : (n b : ℕ) (bs : List ℕ) → take (1 + n) (b ∷ bs) ≡ b ∷ take n bs
take_next n b bs = let next : 1 + n ≡ suc n = omega arith in ap (λ m. take m (b ∷ bs)) next

drop_next : (n b : ℕ) (bs : List ℕ) → drop (1 + n + 1) (b ∷ bs) ≡ drop (n + 1) bs
drop_next n b bs = let next : 1 + n + 1 ≡ suc (n + 1) = omega arith in ap (λ m. drop m (b ∷ bs)) next

abbrev counted : List ℕ → List ℕ → List (List ℕ)
counted line rest = cond (opens line) (line ∷ read_on [] rest) []

read_first : (begun text : List ℕ) → newline_at text < length text → read_on begun text ≡ counted (begun ++ take (newline_at text) text) (drop (newline_at text + 1) text)
read_first begun [] within = absurd (omega arith)
read_first begun (b ∷ bs) within =
    elim (b == 10) as (λ t. cond (not t) (1 + newline_at bs) 0 < suc (length bs)
    → cond t (counted begun bs) (read_on (begun ++ b ∷ []) bs)
    ≡ counted (begun ++ take (cond (not t) (1 + newline_at bs) 0) (b ∷ bs)) (drop (cond (not t) (1 + newline_at bs) 0 + 1) (b ∷ bs))) [
      | true ↦ λ h. ap (λ l. counted l bs) (sym (append-nil begun))
      | false ↦ λ h. read_first (begun ++ b ∷ []) bs (omega arith)
          ∙ ap (λ l. counted l (drop (newline_at bs + 1) bs)) (append_assoc begun (b ∷ []) (take (newline_at bs) bs))
          ∙ ap (λ l. counted (begun ++ l) (drop (newline_at bs + 1) bs)) (sym (take_next (newline_at bs) b bs))
          ∙ ap (λ l. counted (begun ++ take (1 + newline_at bs) (b ∷ bs)) l) (sym (drop_next (newline_at bs) b bs))
    ] within

read_none : (begun text : List ℕ) → length text ≤ newline_at text → read_on begun text ≡ []
read_none begun [] beyond = refl
read_none begun (b ∷ bs) beyond =
    elim (b == 10) as (λ t. suc (length bs) ≤ cond (not t) (1 + newline_at bs) 0 → cond t (counted begun bs) (read_on (begun ++ b ∷ []) bs) ≡ []) [
      | true ↦ λ h. absurd (omega arith)
      | false ↦ λ h. read_none (begun ++ b ∷ []) bs (omega arith)
    ] beyond

-- a line opens where its text does
opens_first : (text : List ℕ) → opens (take (newline_at text) text) ≡ opens text
opens_first [] = refl
opens_first (b ∷ bs) =
    elim (b == 10) as (λ t. (b == 10) ≡ t → opens (take (cond (not t) (1 + newline_at bs) 0) (b ∷ bs)) ≡ (b == 123)) [
      | true ↦ λ is. let ten : b ≡ 10 = grind (arith, nat_tests, is) in ap (λ n. false) ten ∙ ap (λ n. n == 123) (sym ten)
      | false ↦ λ is. ap opens (take_next (newline_at bs) b bs)
    ] refl

pub found_within : (text : List ℕ) (i : ℕ) → position (λ b. b == 10) text ≡ Some i → (i ≡ newline_at text) × (newline_at text < length text)
found_within text i found =
    elim (nat_lt (newline_at text) (length text)) as (λ b. nat_lt (newline_at text) (length text) ≡ b → cond b (Some (newline_at text)) None ≡ Some i
    → (i ≡ newline_at text) × (newline_at text < length text)) [
      | true ↦ λ e h. (cc, ltb-true (newline_at text) (length text) e)
      | false ↦ λ e h. absurd (cc)
    ] refl found

-- without a newline nothing counts
pub cut_none : (text : List ℕ) → position (λ b. b == 10) text ≡ None → recovered text ≡ []
cut_none text found =
    elim (nat_lt (newline_at text) (length text)) as (λ b. nat_lt (newline_at text) (length text) ≡ b → cond b (Some (newline_at text)) None ≡ None → recovered text ≡ []) [
      | true ↦ λ e h. absurd (cc)
      | false ↦ λ e h. read_none [] text (ltb-false (newline_at text) (length text) e)
    ] refl found

-- a line with its gate open counts
pub cut_open : (text : List ℕ) (i : ℕ) → position (λ b. b == 10) text ≡ Some i → opens text ≡ true → recovered text ≡ take i text ∷ recovered (drop (i + 1) text)
cut_open text i found open_gate =
    let at = found_within text i found in
    rw at.0 (read_first [] text at.1 ∙ ap (λ t. cond t (take (newline_at text) text ∷ recovered (drop (newline_at text + 1) text)) []) (opens_first text ∙ open_gate))

-- and one with its gate closed ends what counts
pub cut_shut : (text : List ℕ) (i : ℕ) → position (λ b. b == 10) text ≡ Some i → opens text ≡ false → recovered text ≡ []
cut_shut text i found shut =
    let at = found_within text i found in
    read_first [] text at.1 ∙ ap (λ t. cond t (take (newline_at text) text ∷ recovered (drop (newline_at text + 1) text)) []) (opens_first text ∙ shut)

-- how long the lines are, with the first and without it
pub cut_length : (text : List ℕ) (i : ℕ) → position (λ b. b == 10) text ≡ Some i → opens text ≡ true
    → length (text_of (recovered text)) + length (take (length text - (i + 1)) (drop (i + 1) text)) ≡ length text + length (text_of (recovered (take (length text - (i + 1)) (drop (i + 1) text))))
cut_length text i found open_gate =
    let at = found_within text i found in
    let rest = drop (i + 1) text in
    let within : i < length text = grind (arith, at.0, at.1) in
    rw (take_all (length text - (i + 1)) rest (omega (arith, length-drop (i + 1) text)), cut_open text i found open_gate)
    (grind (arith, within, length-append (take i text) (10 ∷ text_of (recovered rest)), length-take i text, length-drop (i + 1) text))

-- the test of the first byte
pub open_test : (text : List ℕ) → starts_with nat_eq text (123 ∷ []) ≡ opens text
open_test [] = refl
open_test (b ∷ bs) = elim (b == 123) as (λ t. (b == 123) ≡ t → starts_with nat_eq (b ∷ bs) (123 ∷ []) ≡ t) [
  | true ↦ λ is. grind (arith, nat_tests, is)
  | false ↦ λ is. grind (arith, nat_tests, is)
] refl
