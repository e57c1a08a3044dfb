-- The first line of a text ends at its first newline, or is the whole of it.
use Rattle.std.proofs.Common.{◌≡◌, ℕ, ◌+◌, ◌-◌, ◌<◌, ◌≤◌, suc, ◌==◌, true, false, cond, not, nat_lt, List, [], ◌∷◌, ◌++◌, length, take, drop, map, position, Option, Some, None, refl, sym, ap, ◌∙◌, append-nil, length-drop, arith}
use Rattle.std.specs.List.{position_or_len}
use Rattle.memchr.specs.Find.{IsFirstByte, is_byte}
use Rattle.std.proofs.lemmas.Bool.{false_from_ne_true, lt-ltb, ltb-false, ltb-true}
use Rattle.std.proofs.lemmas.List.{append_assoc, map-append, take_all}
use Rattle.std.proofs.lemmas.List.Sums.{position_or_len_is}
use Rattle.pana_wire.specs.Lines.{ended, unended, last_line, lines_of}
use Rattle.pana_wire.specs.inner.Rounds.{IsCut}
use Rattle.pana_wire.proofs.Lines.{ended_many}

abbrev newline_at : List ℕ → ℕ
newline_at text = position_or_len (λ b. b == 10) text

take_next : (n b : ℕ) (bs : List ℕ) → take (1 + n) (b ∷ bs) ≡ b ∷ take n bs
take_next n b bs = let next : 1 + n ≡ suc n = omega arith in ap (λ m. take m (b ∷ bs)) next

drop_next : (n b : ℕ) (bs : List ℕ) → drop (1 + n + 1) (b ∷ bs) ≡ drop (n + 1) bs
drop_next n b bs = let next : 1 + n + 1 ≡ suc (n + 1) = omega arith in ap (λ m. drop m (b ∷ bs)) next

ended_first : (begun text : List ℕ) → newline_at text < length text → ended begun text ≡ (begun ++ take (newline_at text) text) ∷ ended [] (drop (newline_at text + 1) text)
ended_first begun [] within = absurd (omega arith)
ended_first begun (b ∷ bs) within =
    elim (b == 10) as (λ t. cond (not t) (1 + newline_at bs) 0 < suc (length bs)
    → cond t (begun ∷ ended [] bs) (ended (begun ++ b ∷ []) bs)
    ≡ (begun ++ take (cond (not t) (1 + newline_at bs) 0) (b ∷ bs)) ∷ ended [] (drop (cond (not t) (1 + newline_at bs) 0 + 1) (b ∷ bs))) [
      | true ↦ λ h. ap (λ l. l ∷ ended [] bs) (sym (append-nil begun))
      | false ↦ λ h. ended_first (begun ++ b ∷ []) bs (omega arith)
          ∙ ap (λ l. l ∷ ended [] (drop (newline_at bs + 1) bs)) (append_assoc begun (b ∷ []) (take (newline_at bs) bs))
          ∙ ap (λ l. (begun ++ l) ∷ ended [] (drop (newline_at bs + 1) bs)) (sym (take_next (newline_at bs) b bs))
          ∙ ap (λ l. (begun ++ take (1 + newline_at bs) (b ∷ bs)) ∷ ended [] l) (sym (drop_next (newline_at bs) b bs))
    ] within

unended_first : (begun text : List ℕ) → newline_at text < length text → unended begun text ≡ unended [] (drop (newline_at text + 1) text)
unended_first begun [] within = absurd (omega arith)
unended_first begun (b ∷ bs) within =
    elim (b == 10) as (λ t. cond (not t) (1 + newline_at bs) 0 < suc (length bs)
    → cond t (unended [] bs) (unended (begun ++ b ∷ []) bs) ≡ unended [] (drop (cond (not t) (1 + newline_at bs) 0 + 1) (b ∷ bs))) [
      | true ↦ λ h. refl
      | false ↦ λ h. unended_first (begun ++ b ∷ []) bs (omega arith) ∙ ap (unended []) (sym (drop_next (newline_at bs) b bs))
    ] within

ended_none : (begun text : List ℕ) → length text ≤ newline_at text → ended begun text ≡ []
ended_none begun [] beyond = refl
ended_none begun (b ∷ bs) beyond =
    elim (b == 10) as (λ t. suc (length bs) ≤ cond (not t) (1 + newline_at bs) 0 → cond t (begun ∷ ended [] bs) (ended (begun ++ b ∷ []) bs) ≡ []) [
      | true ↦ λ h. absurd (omega arith)
      | false ↦ λ h. ended_none (begun ++ b ∷ []) bs (omega arith)
    ] beyond

unended_none : (begun text : List ℕ) → length text ≤ newline_at text → unended begun text ≡ begun ++ text
unended_none begun [] beyond = sym (append-nil begun)
unended_none begun (b ∷ bs) beyond =
    elim (b == 10) as (λ t. suc (length bs) ≤ cond (not t) (1 + newline_at bs) 0 → cond t (unended [] bs) (unended (begun ++ b ∷ []) bs) ≡ begun ++ b ∷ bs) [
      | true ↦ λ h. absurd (omega arith)
      | false ↦ λ h. unended_none (begun ++ b ∷ []) bs (omega arith) ∙ append_assoc begun (b ∷ []) bs
    ] beyond

-- a newline that is found
pub found_within : (text : List ℕ) (i : ℕ) → position (λ b. b == 10) text ≡ Some i → (i ≡ newline_at text) × (newline_at text < length text)
found_within text i found =
    elim (nat_lt (newline_at text) (length text)) as (λ b. nat_lt (newline_at text) (length text) ≡ b → cond b (Some (newline_at text)) None ≡ Some i
    → (i ≡ newline_at text) × (newline_at text < length text)) [
      | true ↦ λ e h. (cc, ltb-true (newline_at text) (length text) e)
      | false ↦ λ e h. absurd (cc)
    ] refl found

found_none : (text : List ℕ) → position (λ b. b == 10) text ≡ None → length text ≤ newline_at text
found_none text found =
    elim (nat_lt (newline_at text) (length text)) as (λ b. nat_lt (newline_at text) (length text) ≡ b → cond b (Some (newline_at text)) None ≡ None → length text ≤ newline_at text) [
      | true ↦ λ e h. absurd (cc)
      | false ↦ λ e h. ltb-false (newline_at text) (length text) e
    ] refl found

pub cut_first : (text : List ℕ) (i : ℕ) → position (λ b. b == 10) text ≡ Some i → lines_of text ≡ take i text ∷ lines_of (take (length text - (i + 1)) (drop (i + 1) text))
cut_first text i found =
    let at = found_within text i found in
    let rest = drop (i + 1) text in
    rw (take_all (length text - (i + 1)) rest (omega (arith, length-drop (i + 1) text)), at.0)
    (ap (λ l. l ++ last_line (unended [] text)) (ended_first [] text at.1)
    ∙ ap (λ l. take (newline_at text) text ∷ (ended [] (drop (newline_at text + 1) text) ++ last_line l)) (unended_first [] text at.1))

pub cut_last : (text : List ℕ) → position (λ b. b == 10) text ≡ None → (length text == 0) ≡ false → lines_of text ≡ text ∷ []
cut_last text found some =
    let beyond = found_none text found in
    rw (ended_none [] text beyond, unended_none [] text beyond) (whole text some)
  where
    whole : (text : List ℕ) → (length text == 0) ≡ false → last_line text ≡ text ∷ []
    whole [] some = absurd (cc)
    whole (b ∷ bs) some = refl

-- one line more, and the rest without it
pub one_line_more : {X : Type 0} (f : X → List ℕ) (items : List X) (x : X) (all rest later : List (List ℕ))
    → all ≡ map f items ++ rest → rest ≡ f x ∷ later → all ≡ map f (items ++ x ∷ []) ++ later
one_line_more f items x all rest later is next =
    is ∙ ap (λ l. map f items ++ l) next ∙ sym (append_assoc (map f items) (f x ∷ []) later) ∙ ap (λ l. l ++ later) (sym (map-append f items (x ∷ [])))

-- no byte is left, so no line is
pub no_line_more : {X : Type 0} (f : X → List ℕ) (items : List X) (all : List (List ℕ)) (rest : List ℕ)
    → all ≡ map f items ++ lines_of rest → rest ≡ [] → map f items ≡ all
no_line_more f items all rest is empty = sym (is ∙ ap (λ r. map f items ++ lines_of r) empty ∙ append-nil (map f items))

ltb_refl : (n : ℕ) → nat_lt n n ≡ false
ltb_refl n = false_from_ne_true _ (λ h. let odd : n < n = ltb-true n n h in absurd (omega arith))

-- the first newline is found by its place
pub first_newline : (text : List ℕ) (found : Option ℕ) → IsFirstByte (is_byte 10) text found → found ≡ position (λ b. b == 10) text
first_newline text None nowhere =
    let at : newline_at text ≡ length text = position_or_len_is (λ (b : ℕ). b == 10) text (length text) 0 (omega arith) (λ k below. false_from_ne_true _ (nowhere k (omega arith) below)) (λ below. absurd (omega arith)) in
    let none : nat_lt (newline_at text) (length text) ≡ false = (ap (λ n. nat_lt n (length text)) at ∙ ltb_refl (length text)) in
    sym (ap (λ t. cond t (Some (newline_at text)) None) none)
first_newline text (Some i) first =
    let at : newline_at text ≡ i = position_or_len_is (λ (b : ℕ). b == 10) text i 0 (omega (arith, first.0.high)) (λ k below. false_from_ne_true _ (first.0.before k (omega arith) below)) (λ below. first.1) in
    let some : nat_lt (newline_at text) (length text) ≡ true = rw at (lt-ltb i (length text) first.0.high) in
    sym (ap (λ t. cond t (Some (newline_at text)) None) some ∙ ap (λ k. Some k) at)

-- the line that comes next
pub cut_next : (begun piece : List ℕ) (lines : List (List ℕ)) (now rest : List ℕ) (i : ℕ) → IsCut begun piece lines now rest → position (λ b. b == 10) rest ≡ Some i
    → IsCut begun piece (lines ++ (now ++ take i rest) ∷ []) [] (take (length rest - (i + 1)) (drop (i + 1) rest))
cut_next begun piece lines now rest i is found =
    let at = found_within rest i found in
    let more = drop (i + 1) rest in
    rw (take_all (length rest - (i + 1)) more (omega (arith, length-drop (i + 1) rest)), at.0) (record {
      ends = is.ends ∙ ap (λ (ls : List (List ℕ)). lines ++ ls) (ended_first now rest at.1) ∙ sym (append_assoc lines ((now ++ take (newline_at rest) rest) ∷ []) (ended [] (drop (newline_at rest + 1) rest)));
      left = is.left ∙ unended_first now rest at.1;
    })

-- one line fewer is left
pub many_next : (now other rest : List ℕ) (i : ℕ) → position (λ b. b == 10) rest ≡ Some i
    → length (ended now rest) ≡ suc (length (ended other (take (length rest - (i + 1)) (drop (i + 1) rest))))
many_next now other rest i found =
    let at = found_within rest i found in
    let more = drop (i + 1) rest in
    rw (take_all (length rest - (i + 1)) more (omega (arith, length-drop (i + 1) rest)), at.0)
    (ap (λ (ls : List (List ℕ)). length ls) (ended_first now rest at.1) ∙ ap suc (ended_many [] other (drop (newline_at rest + 1) rest)))

-- no line more ends
pub cut_done : (begun piece : List ℕ) (lines : List (List ℕ)) (now rest : List ℕ) → IsCut begun piece lines now rest → position (λ b. b == 10) rest ≡ None
    → (ended begun piece ≡ lines) × (unended begun piece ≡ now ++ rest)
cut_done begun piece lines now rest is found =
    let beyond = found_none rest found in (
      is.ends ∙ ap (λ (ls : List (List ℕ)). lines ++ ls) (ended_none now rest beyond) ∙ append-nil lines,
      is.left ∙ unended_none now rest beyond,
    )

pub many_none : (now rest : List ℕ) → position (λ b. b == 10) rest ≡ None → length (ended now rest) ≡ 0
many_none now rest found = ap (λ (ls : List (List ℕ)). length ls) (ended_none now rest (found_none rest found))
