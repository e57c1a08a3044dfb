-- The lines that a file stands for.
use Rattle.std.proofs.Common.{◌≡◌, ◌⊎◌, inl, inr, ℕ, ◌==◌, Bool, true, false, cond, List, [], ◌∷◌, ◌++◌, length, drop, refl, sym, ◌∙◌, ap, subst, arith, append_assoc, take-append-drop}
use Rattle.std.proofs.lemmas.List.{append-nil}
use Rattle.std.proofs.lemmas.Bool.Decides.{nat_tests}
use Rattle.pana_log.specs.Lines.{opens, read_on, recovered, text_of, closed, HasNoBreak, AreLines, Begins, IsBeforeOrAfter}

pub which : (t : Bool) → (t ≡ true) ⊎ (t ≡ false)
which true = inl refl
which false = inr refl

-- a line with its newline counts if its gate is open, and else ends the lines
pub read_line : (begun l rest : List ℕ) → HasNoBreak l → read_on begun (l ++ 10 ∷ rest) ≡ cond (opens (begun ++ l)) ((begun ++ l) ∷ read_on [] rest) []
read_line begun [] rest none = ap (λ (f : List ℕ). cond (opens f) (f ∷ read_on [] rest) []) (sym (append-nil begun))
read_line begun (b ∷ l) rest none =
    ap (λ t. cond t (cond (opens begun) (begun ∷ read_on [] (l ++ 10 ∷ rest)) []) (read_on (begun ++ b ∷ []) (l ++ 10 ∷ rest))) none.0
    ∙ read_line (begun ++ b ∷ []) l rest none.1
    ∙ ap (λ (f : List ℕ). cond (opens f) (f ∷ read_on [] rest) []) (append_assoc begun (b ∷ []) l)

-- whole lines, and then whatever the rest stands for
pub recovered_lines : (ls : List (List ℕ)) (rest : List ℕ) → AreLines ls → recovered (text_of ls ++ rest) ≡ ls ++ recovered rest
recovered_lines [] rest are = refl
recovered_lines (l ∷ ls) rest are =
    ap recovered (append_assoc l (10 ∷ text_of ls) rest)
    ∙ read_line [] l (text_of ls ++ rest) are.1
    ∙ ap (λ t. cond t (l ∷ recovered (text_of ls ++ rest)) []) are.0
    ∙ ap (λ (x : List (List ℕ)). l ∷ x) (recovered_lines ls rest are.2)

stays_shut : (b : ℕ) (begun rest : List ℕ) → (b == 123) ≡ false → read_on (b ∷ begun) rest ≡ []
stays_shut b begun [] shut = refl
stays_shut b begun (x ∷ rest) shut =
    elim (x == 10) as (λ t. cond t (cond (b == 123) ((b ∷ begun) ∷ read_on [] rest) []) (read_on (b ∷ (begun ++ x ∷ [])) rest) ≡ []) [
      | true ↦ ap (λ t. cond t ((b ∷ begun) ∷ read_on [] rest) []) shut
      | false ↦ stays_shut b (begun ++ x ∷ []) rest shut
    ]

-- behind a closed gate nothing counts
pub recovered_shut : (b : ℕ) (rest : List ℕ) → (b == 123) ≡ false → recovered (b ∷ rest) ≡ []
recovered_shut b rest shut = elim (b == 10) as (λ t. cond t [] (read_on (b ∷ []) rest) ≡ []) [
  | true ↦ refl
  | false ↦ stays_shut b [] rest shut
]

pub unbroken : (begun x : List ℕ) → HasNoBreak x → read_on begun x ≡ []
unbroken begun [] none = refl
unbroken begun (b ∷ x) none =
    ap (λ t. cond t (cond (opens begun) (begun ∷ read_on [] x) []) (read_on (begun ++ b ∷ []) x)) none.0 ∙ unbroken (begun ++ b ∷ []) x none.1

pub push_unbroken : (begun : List ℕ) (b : ℕ) → HasNoBreak begun → (b == 10) ≡ false → HasNoBreak (begun ++ b ∷ [])
push_unbroken [] b none other = (other, tt)
push_unbroken (f ∷ begun) b none other = (none.0, push_unbroken begun b none.1 other)

pub lines_read : (begun x : List ℕ) → HasNoBreak begun → AreLines (read_on begun x)
lines_read begun [] none = tt
lines_read begun (b ∷ x) none = elim (which (b == 10)) [
  | inl same_byte ↦ subst AreLines (sym (ap (λ t. cond t (cond (opens begun) (begun ∷ read_on [] x) []) (read_on (begun ++ b ∷ []) x)) same_byte)) (elim (which (opens begun)) [
    | inl open_gate ↦ subst AreLines (sym (ap (λ t. cond t (begun ∷ read_on [] x) []) open_gate)) (open_gate, none, lines_read [] x tt)
    | inr shut ↦ subst AreLines (sym (ap (λ t. cond t (begun ∷ read_on [] x) []) shut)) tt
  ])
  | inr other ↦ subst AreLines (sym (ap (λ t. cond t (cond (opens begun) (begun ∷ read_on [] x) []) (read_on (begun ++ b ∷ []) x)) other)) (lines_read (begun ++ b ∷ []) x (push_unbroken begun b none other))
]

pub are_recovered : (x : List ℕ) → AreLines (recovered x)
are_recovered x = lines_read [] x tt

pub recovered-closed : (ls : List (List ℕ)) (c : List ℕ) → AreLines ls → Begins (closed ls) c → recovered c ≡ ls
recovered-closed ls c are begins =
    let n = length (closed ls) in
    let whole : c ≡ text_of ls ++ 0 ∷ drop n c = sym (take-append-drop n c) ∙ ap (λ (l : List ℕ). l ++ drop n c) begins ∙ append_assoc (text_of ls) (0 ∷ []) (drop n c) in
    ap recovered whole ∙ recovered_lines ls (0 ∷ drop n c) are ∙ ap (λ (x : List (List ℕ)). ls ++ x) (recovered_shut 0 (drop n c) refl) ∙ append-nil ls

-- whole lines behind any gate count or they don't
pub recovered_gate : (ls more : List (List ℕ)) (rest z : List ℕ) (b : ℕ) → AreLines ls → AreLines more → text_of more ≡ 123 ∷ rest → IsBeforeOrAfter ls more (text_of ls ++ (b ∷ (rest ++ 0 ∷ z)))
recovered_gate ls more rest z b are are_more gate = elim (which (b == 123)) [
  | inl same_byte ↦
      let is : b ≡ 123 = grind (arith, nat_tests, same_byte) in
      let same_text : b ∷ (rest ++ 0 ∷ z) ≡ text_of more ++ 0 ∷ z = ap (λ (x : ℕ). x ∷ (rest ++ 0 ∷ z)) is ∙ ap (λ (l : List ℕ). l ++ 0 ∷ z) (sym gate) in
      inr (recovered_lines ls (b ∷ (rest ++ 0 ∷ z)) are ∙ ap (λ (l : List ℕ). ls ++ recovered l) same_text
      ∙ ap (λ (x : List (List ℕ)). ls ++ x) (recovered_lines more (0 ∷ z) are_more ∙ ap (λ (x : List (List ℕ)). more ++ x) (recovered_shut 0 z refl) ∙ append-nil more))
  | inr shut ↦ inl (recovered_lines ls (b ∷ (rest ++ 0 ∷ z)) are ∙ ap (λ (x : List (List ℕ)). ls ++ x) (recovered_shut b (rest ++ 0 ∷ z) shut) ∙ append-nil ls)
]
