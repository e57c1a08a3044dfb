-- The first line of a new journal.
use Rattle.std.proofs.Common.{◌≡◌, inl, inr, ℕ, ◌==◌, false, List, drop, [], ◌∷◌, ◌++◌, length, refl, sym, ◌∙◌, ap, ⊎_elim, arith, length-append}
use Rattle.pana_log.specs.Device.{LeavesOnly}
use Rattle.pana_log.specs.Lines.{recovered, text_of, header, kind_new, kind_behind, kind_with, IsBeforeOrAfter}
use Rattle.pana_log.proofs.Moments.{then_on}

-- lines without a byte are none
pub no_lines : (ls : List (List ℕ)) → length (text_of ls) ≡ 0 → ls ≡ []
no_lines [] none = refl
no_lines (l ∷ ls) none = absurd (let long = length-append l (10 ∷ text_of ls) in omega arith)

-- what a file is that has none, and what one that has some
pub kind_without : (file : List ℕ) (ls : List (List ℕ)) → length (text_of ls) ≡ 0 → kind_new file ≡ kind_with file ls
kind_without file ls none = ap (kind_with file) (sym (no_lines ls none))

pub kind_with_some : (file : List ℕ) (ls : List (List ℕ)) → (length (text_of ls) == 0) ≡ false → kind_behind (drop (length (text_of ls)) file) ≡ kind_with file ls
kind_with_some file [] some = absurd (cc)
kind_with_some file (l ∷ ls) some = refl

module _ {D : Type 0} (moment : D → ℕ) (left_since : D → ℕ → List ℕ → Type 0) where
  -- it is staged, and then it is there or not
  pub begins : (a b c : D) (seen_a seen_b text : List ℕ) → recovered seen_a ≡ [] → recovered seen_b ≡ recovered seen_a → recovered text ≡ header ∷ []
      → LeavesOnly moment left_since a b (λ f. recovered f ≡ recovered seen_a) → LeavesOnly moment left_since b c (IsBeforeOrAfter (recovered seen_b) (recovered text)) → LeavesOnly moment left_since a c (IsBeforeOrAfter [] (header ∷ []))
  begins a b c seen_a seen_b text none same is first second =
      then_on moment left_since a b c (λ f. recovered f ≡ recovered seen_a) (IsBeforeOrAfter (recovered seen_b) (recovered text)) (IsBeforeOrAfter [] (header ∷ [])) first second
      (λ f p. inl (p ∙ none))
      (λ f q. ⊎_elim (λ before. inl (before ∙ same ∙ none)) (λ after. inr (after ∙ ap (λ (ls : List (List ℕ)). ls ++ recovered text) (same ∙ none) ∙ is)) q)

  pub not_begun : (a b : D) (seen_a : List ℕ) → recovered seen_a ≡ [] → LeavesOnly moment left_since a b (λ f. recovered f ≡ recovered seen_a) → LeavesOnly moment left_since a b (IsBeforeOrAfter [] (header ∷ []))
  not_begun a b seen_a none run = record {
    later = run.later;
    each = λ f left. inl (run.each f left ∙ none);
    before = λ t f le left. ⊎_elim (λ was. inl was) (λ p. inr (inl (p ∙ none))) (run.before t f le left);
  }
