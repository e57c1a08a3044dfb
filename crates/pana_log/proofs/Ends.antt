-- A file as its lines and an end that stands for nothing, and what a crash leaves while that end is repaired.
use Rattle.std.proofs.Common.{◌≡◌, ◌⊎◌, inl, inr, ℕ, zero, suc, ◌+◌, ◌-◌, ◌≤◌, ◌==◌, true, false, cond, List, [], ◌∷◌, ◌++◌, length, take, drop, refl, sym, ◌∙◌, ap, arith, append_assoc, length-append, length-drop, take-append-drop}
use Rattle.std.proofs.lemmas.List.{append-nil, take_at, take_all}
use Rattle.std.proofs.lemmas.Bool.Decides.{nat_tests}
use Rattle.pana_log.specs.Device.{Holds, Torn, IsCut}
use Rattle.pana_log.specs.Lines.{opens, read_on, recovered, text_of, closed, HasNoBreak, AreLines, Begins}
use Rattle.pana_log.proofs.Recovered.{which, unbroken, recovered_shut, recovered_lines, push_unbroken, are_recovered}
use Rattle.pana_log.proofs.Prefixes.{begins_holds}

abbrev IsShut : List ℕ → Type 0
IsShut [] = ⊥
IsShut (b ∷ bs) = (b == 123) ≡ false

abbrev StandsForNothing : List ℕ → Type 0
StandsForNothing end = HasNoBreak end ⊎ IsShut end

none_left : (end : List ℕ) → StandsForNothing end → recovered end ≡ []
none_left end (inl none) = unbroken [] end none
none_left [] (inr shut) = absurd shut
none_left (b ∷ bs) (inr shut) = recovered_shut b bs shut

take_unbroken : (n : ℕ) (x : List ℕ) → HasNoBreak x → HasNoBreak (take n x)
take_unbroken zero x none = tt
take_unbroken (suc n) [] none = tt
take_unbroken (suc n) (b ∷ x) none = (none.0, take_unbroken n x none.1)

take_nothing : (n : ℕ) (end : List ℕ) → StandsForNothing end → StandsForNothing (take n end)
take_nothing n end (inl none) = inl (take_unbroken n end none)
take_nothing n [] (inr shut) = absurd shut
take_nothing zero (b ∷ bs) (inr shut) = inl tt
take_nothing (suc n) (b ∷ bs) (inr shut) = inr shut

shut_behind : (begun : List ℕ) (b : ℕ) (x : List ℕ) → (b == 10) ≡ true → opens begun ≡ false → IsShut (begun ++ b ∷ x)
shut_behind [] b x is shut = grind (arith, nat_tests, is)
shut_behind (f ∷ begun) b x is shut = shut

pub record Parts (begun file : List ℕ) : Type 0 where
  pub end : List ℕ
  pub split : begun ++ file ≡ text_of (read_on begun file) ++ end
  pub nothing : StandsForNothing end

pub parts : (begun file : List ℕ) → HasNoBreak begun → Parts begun file
parts begun [] none = record { end = begun; split = append-nil begun; nothing = inl none }
parts begun (b ∷ x) none = elim (which (b == 10)) [
  | inl is ↦
      let ten : b ≡ 10 = grind (arith, nat_tests, is) in
      elim (which (opens begun)) [
        | inl open_gate ↦
            let behind = parts [] x tt in
            let e : read_on begun (b ∷ x) ≡ begun ∷ read_on [] x = ap (λ t. cond t (cond (opens begun) (begun ∷ read_on [] x) []) (read_on (begun ++ b ∷ []) x)) is ∙ ap (λ t. cond t (begun ∷ read_on [] x) []) open_gate in
            record {
              end = behind.end;
              split = ap (λ (n : ℕ). begun ++ n ∷ x) ten ∙ ap (λ (l : List ℕ). begun ++ 10 ∷ l) behind.split ∙ sym (append_assoc begun (10 ∷ text_of (read_on [] x)) behind.end)
                  ∙ ap (λ (ls : List (List ℕ)). text_of ls ++ behind.end) (sym e);
              nothing = behind.nothing;
            }
        | inr shut ↦
            let e : read_on begun (b ∷ x) ≡ [] = ap (λ t. cond t (cond (opens begun) (begun ∷ read_on [] x) []) (read_on (begun ++ b ∷ []) x)) is ∙ ap (λ t. cond t (begun ∷ read_on [] x) []) shut in
            record { end = begun ++ b ∷ x; split = ap (λ (ls : List (List ℕ)). text_of ls ++ (begun ++ b ∷ x)) (sym e); nothing = inr (shut_behind begun b x is shut) }
      ]
  | inr other ↦
      let behind = parts (begun ++ b ∷ []) x (push_unbroken begun b none other) in
      let e : read_on begun (b ∷ x) ≡ read_on (begun ++ b ∷ []) x = ap (λ t. cond t (cond (opens begun) (begun ∷ read_on [] x) []) (read_on (begun ++ b ∷ []) x)) other in
      record { end = behind.end; split = sym (append_assoc begun (b ∷ []) x) ∙ behind.split ∙ ap (λ (ls : List (List ℕ)). text_of ls ++ behind.end) (sym e); nothing = behind.nothing }
]

take_past : (xs ys : List ℕ) (m n : ℕ) → m ≡ length xs + n → take m (xs ++ ys) ≡ xs ++ take n ys
take_past [] ys m n is = let same : m ≡ n = omega arith in ap (λ (k : ℕ). take k ys) same
take_past (x ∷ xs) ys zero n is = absurd (omega arith)
take_past (x ∷ xs) ys (suc m) n is = ap (λ (l : List ℕ). x ∷ l) (take_past xs ys m n (omega arith))

short_nothing : (bytes : List ℕ) → length bytes ≤ 1 → recovered bytes ≡ []
short_nothing [] short = refl
short_nothing (a ∷ []) short = elim (which (a == 10)) [
  | inl is ↦ ap (λ t. cond {A = List (List ℕ)} t [] []) is
  | inr other ↦ ap (λ t. cond {A = List (List ℕ)} t [] []) other
]
short_nothing (a ∷ b ∷ bytes) short = absurd (omega arith)

pub lines_within : (file : List ℕ) → length (text_of (recovered file)) ≤ length file
lines_within file = let p = parts [] file tt in omega (arith, ap length p.split, length-append (text_of (recovered file)) p.end)

module _ (file : List ℕ) (end : ℕ) (is_end : end ≡ length (text_of (recovered file))) where
  abbrev lines : List (List ℕ)
  lines = recovered file

  -- any cut keeps the lines
  pub cut_keeps : (c : List ℕ) → IsCut end file c → recovered c ≡ lines
  cut_keeps c cut =
      let p = parts [] file tt in
      let whole : c ≡ take (length c) (text_of lines ++ p.end) = sym cut.prefix ∙ ap (λ (l : List ℕ). take (length c) l) p.split in
      let n = length c - length (text_of lines) in
      let cut_end : c ≡ text_of lines ++ take n p.end = whole ∙ take_past (text_of lines) p.end (length c) n (omega (arith, cut.no_shorter, is_end, lines_within file)) in
      ap recovered cut_end ∙ recovered_lines lines (take n p.end) (are_recovered file)
      ∙ ap (λ (ls : List (List ℕ)). lines ++ ls) (none_left (take n p.end) (take_nothing n p.end p.nothing)) ∙ append-nil lines

  pub cut_done : take end file ≡ text_of lines
  cut_done = let p = parts [] file tt in ap (λ (l : List ℕ). take end l) p.split ∙ take_at (text_of lines) p.end end (sym is_end)

  -- one byte behind the lines is no line
  pub torn_end : (c : List ℕ) → Torn end 1 (text_of lines) c → recovered c ≡ lines
  torn_end c torn =
      let begun : take end c ≡ text_of lines = torn.before ∙ take_all end (text_of lines) (omega (arith, is_end)) in
      let whole : c ≡ text_of lines ++ drop end c = sym (take-append-drop end c) ∙ ap (λ (l : List ℕ). l ++ drop end c) begun in
      ap recovered whole ∙ recovered_lines lines (drop end c) (are_recovered file)
      ∙ ap (λ (ls : List (List ℕ)). lines ++ ls) (short_nothing (drop end c) (omega (arith, length-drop end c, is_end, torn.no_longer))) ∙ append-nil lines

  pub written_end : (c : List ℕ) → Holds (text_of lines) end (0 ∷ []) c → Begins (closed lines) c
  written_end c holds = begins_holds (text_of lines) (0 ∷ []) (text_of lines) c end is_end (take_all (length (text_of lines)) (text_of lines) (omega arith)) holds

pub whole_text : (text : List ℕ) → length text ≡ length (text_of (recovered text)) → text_of (recovered text) ≡ text
whole_text text same = sym (cut_done text (length text) same) ∙ take_all (length text) text (omega arith)

pub recovered-text_of : (ls : List (List ℕ)) → AreLines ls → recovered (text_of ls) ≡ ls
recovered-text_of ls are = ap recovered (sym (append-nil (text_of ls))) ∙ recovered_lines ls [] are ∙ append-nil ls
