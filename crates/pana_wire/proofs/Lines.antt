-- Laws of cutting a text into lines, and of keeping the begun of each line alone.
use Rattle.std.proofs.Common.{◌≡◌, ℕ, zero, suc, ◌+◌, ◌==◌, true, false, cond, List, [], ◌∷◌, ◌++◌, length, take, refl, sym, ap, ◌∙◌, arith, inl, inr}
use Rattle.std.proofs.lemmas.Bool.{cases_lt, lt-ltb, ne_eqb}
use Rattle.std.proofs.lemmas.List.{take_all, take-append-le, length-take-le}
use Rattle.std.specs.Prelude.{nat_lt}
use Rattle.pana_wire.specs.Line.{IsText, text_in, line_says}
use Rattle.pana_wire.specs.Lines.{ended, unended, last_line}
use Rattle.pana_wire.specs.inner.Kept.{keep}
use Rattle.pana_wire.specs.inner.Progress.{IsHeldOf}

-- where more bytes come, of what was kept and of the whole the same is kept
pub keep_take : (begun more : List ℕ) → keep (take 65537 begun) more ≡ keep begun more
keep_take begun more = elim (cases_lt (length begun) 65537) [
  | inl h ↦ ap (λ l. keep l more) (take_all 65537 begun (omega arith))
  | inr h ↦ let full : length (take 65537 begun) ≡ 65537 = length-take-le 65537 begun h in
      take-append-le 65537 (take 65537 begun) more (omega arith) ∙ take_all 65537 (take 65537 begun) (omega arith) ∙ sym (take-append-le 65537 begun more h)
]

take_behind : (xs ys : List ℕ) (n k : ℕ) → n ≡ length xs + k → take n (xs ++ ys) ≡ xs ++ take k ys
take_behind [] ys n k is = let same : n ≡ k = omega arith in ap (λ m. take m ys) same
take_behind (x ∷ xs) ys zero k is = absurd (omega arith)
take_behind (x ∷ xs) ys (suc n) k is = ap (λ l. x ∷ l) (take_behind xs ys n k (omega arith))

-- what there is room for is kept
pub keep_room : (begun more : List ℕ) (room : ℕ) → 65537 ≡ length begun + room → begun ++ take room more ≡ keep begun more
keep_room begun more room is = sym (take_behind begun more 65537 room is)

pub ended_append : (begun xs ys : List ℕ) → ended begun (xs ++ ys) ≡ ended begun xs ++ ended (unended begun xs) ys
ended_append begun [] ys = refl
ended_append begun (x ∷ xs) ys =
    elim (x == 10) as (λ t. cond t (begun ∷ ended [] (xs ++ ys)) (ended (begun ++ x ∷ []) (xs ++ ys))
    ≡ cond t (begun ∷ ended [] xs) (ended (begun ++ x ∷ []) xs) ++ ended (cond t (unended [] xs) (unended (begun ++ x ∷ []) xs)) ys) [
      | true ↦ ap (λ l. begun ∷ l) (ended_append [] xs ys)
      | false ↦ ended_append (begun ++ x ∷ []) xs ys
    ]

pub unended_append : (begun xs ys : List ℕ) → unended begun (xs ++ ys) ≡ unended (unended begun xs) ys
unended_append begun [] ys = refl
unended_append begun (x ∷ xs) ys =
    elim (x == 10) as (λ t. cond t (unended [] (xs ++ ys)) (unended (begun ++ x ∷ []) (xs ++ ys))
    ≡ unended (cond t (unended [] xs) (unended (begun ++ x ∷ []) xs)) ys) [
      | true ↦ unended_append [] xs ys
      | false ↦ unended_append (begun ++ x ∷ []) xs ys
    ]

-- a line is text where its first 65,537 bytes are
pub text_cut : (line : List ℕ) → IsText (take 65537 line) → IsText line
unfolding text_in
text_cut line = elim (cases_lt (length line) 65537) as (λ _. IsText (take 65537 line) → IsText line) [
  | inl h ↦ λ is. rw (← take_all 65537 line (omega arith)) is
  | inr h ↦ λ is. let full : length (take 65537 line) ≡ 65537 = length-take-le 65537 line h in
      let long : nat_lt 65536 (length (take 65537 line)) ≡ true = rw full refl in
      absurd (cc (rw long at is))
]

-- a line says what its first 65,537 bytes say
pub says_cut : (line : List ℕ) → line_says (take 65537 line) ≡ line_says line
unfolding line_says text_in
says_cut line = elim (cases_lt (length line) 65537) [
  | inl h ↦ ap line_says (take_all 65537 line (omega arith))
  | inr h ↦ let full : length (take 65537 line) ≡ 65537 = length-take-le 65537 line h in
      let long : nat_lt 65536 (length line) ≡ true = lt-ltb 65536 (length line) (omega arith) in
      let long_cut : nat_lt 65536 (length (take 65537 line)) ≡ true = rw full refl in
      rw (long, long_cut) refl
]

no_zero : (bs : List ℕ) → true ≡ (suc (length bs) == 0) → ⊥
no_zero bs is = let some : (suc (length bs) == 0) ≡ false = ne_eqb (suc (length bs)) 0 (λ e. absurd (omega arith)) in let odd : true ≡ false = is ∙ some in absurd (cc)

-- where nothing is held of a line, it is empty
pub held_none : (line held : List ℕ) → held ≡ take 65537 line → (length held == 0) ≡ true → line ≡ []
held_none [] held is none = refl
held_none (b ∷ bs) held is none = absurd (no_zero (take 65536 bs) (sym none ∙ ap (λ (l : List ℕ). length l == 0) is))

pub held_some : (line held : List ℕ) → held ≡ take 65537 line → (length held == 0) ≡ false → last_line line ≡ line ∷ []
held_some [] held is some = let odd : false ≡ true = sym some ∙ ap (λ (l : List ℕ). length l == 0) is in absurd (cc)
held_some (b ∷ bs) held is some = refl

-- how many lines end in a text is the same, whatever has begun
pub ended_many : (begun other text : List ℕ) → length (ended begun text) ≡ length (ended other text)
ended_many begun other [] = refl
ended_many begun other (b ∷ bs) =
    elim (b == 10) as (λ t. length (cond t (begun ∷ ended [] bs) (ended (begun ++ b ∷ []) bs)) ≡ length (cond t (other ∷ ended [] bs) (ended (other ++ b ∷ []) bs))) [
      | true ↦ refl
      | false ↦ ended_many (begun ++ b ∷ []) (other ++ b ∷ []) bs
    ]

-- where nothing was held, the line stands whole in the last bytes
pub whole_held : (held begun last first : List ℕ) → IsHeldOf held begun → (length held == 0) ≡ true → first ≡ take 65537 last → IsHeldOf first (begun ++ last)
whole_held held begun last first is none same = same ∙ ap (λ (l : List ℕ). take 65537 (l ++ last)) (sym (held_none begun held is none))

-- what is held then is held of the line
pub held_so : (held begun last new text : List ℕ) → IsHeldOf held begun → new ≡ keep held last → text ≡ new → IsHeldOf text (begun ++ last)
held_so held begun last new text is made same = same ∙ made ∙ ap (λ (l : List ℕ). keep l last) is ∙ keep_take begun last

-- the bytes behind the last newline are held of the line that they begin, or go on with
pub held_then : (held now rest line new : List ℕ) → IsHeldOf held now → new ≡ keep held rest → line ≡ now ++ rest → IsHeldOf new line
held_then held now rest line new is made same = made ∙ ap (λ (l : List ℕ). keep l rest) is ∙ keep_take now rest ∙ ap (λ (l : List ℕ). take 65537 l) (sym same)
