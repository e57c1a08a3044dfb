-- How much of a line is kept.
use Rattle.std.specs.Prelude.{ℕ, suc, ◌+◌, ◌==◌, Bool, true, false, not, cond, ◌&&◌, List, [], ◌∷◌, take}
use Rattle.std.proofs.Common.{◌≡◌, refl, sym, ◌∙◌, ap, arith, inl, inr}
use Rattle.std.proofs.lemmas.Bool.{cond-true, cond-false, cases_Bool, eqb-true, both_ways}
use Rattle.pana_ignore.specs.Reading.{are_spaces, trimmed}
use Rattle.pana_ignore.specs.inner.Kept.{is_kept, quotes, kept, kept_behind}

kept-later : (end at k : ℕ) (v : Bool) → cond v end (at + cond v 0 (suc k)) ≡ cond v end (at + 1 + k)
kept-later end at k true = refl
kept-later end at k false = omega arith

pub trimmed-kept : (is_quoted : Bool) (text : List ℕ) → trimmed is_quoted text ≡ take (kept is_quoted text) text
trimmed-kept is_quoted [] = refl
trimmed-kept is_quoted (b ∷ rest) =
    elim (not is_quoted && are_spaces (b ∷ rest)) as (λ v. cond v [] (b ∷ trimmed (quotes is_quoted b) rest) ≡ take (cond v 0 (suc (kept (quotes is_quoted b) rest))) (b ∷ rest)) [
      | true ↦ refl
      | false ↦ ap (λ all. b ∷ all) (trimmed-kept (quotes is_quoted b) rest)
    ]

kept-spaces : (text : List ℕ) → are_spaces text ≡ true → kept false text ≡ 0
kept-spaces [] h = refl
kept-spaces (b ∷ rest) h = cond-true (are_spaces (b ∷ rest)) 0 (suc (kept (quotes false b) rest)) h

-- nothing is read yet
pub kept-all : (text : List ℕ) → kept false text ≡ kept_behind 0 0 false text
kept-all text =
    elim (cases_Bool (are_spaces text)) [
      | inl h ↦ kept-spaces text h ∙ sym (cond-true (are_spaces text) 0 (0 + kept false text) h)
      | inr h ↦ sym (cond-false (are_spaces text) 0 (0 + kept false text) h ∙ omega arith)
    ]

-- all is read
pub kept-end : (end at : ℕ) (is_quoted : Bool) → (is_quoted ≡ true → end ≡ at) → kept_behind end at is_quoted [] ≡ end
kept-end end at true same = omega (arith, same refl)
kept-end end at false same = refl

kept-on : (at : ℕ) (is_quoted : Bool) (rest : List ℕ) → at + suc (kept is_quoted rest) ≡ kept_behind (at + 1) (at + 1) is_quoted rest
kept-on at true rest = omega arith
kept-on at false rest =
    elim (cases_Bool (are_spaces rest)) [
      | inl h ↦ ap (λ n. at + suc n) (kept-spaces rest h) ∙ omega arith ∙ sym (cond-true (are_spaces rest) (at + 1) (at + 1 + kept false rest) h)
      | inr h ↦ omega arith ∙ sym (cond-false (are_spaces rest) (at + 1) (at + 1 + kept false rest) h)
    ]

-- a byte is kept
pub kept-byte : (end at : ℕ) (is_quoted : Bool) (b : ℕ) (rest : List ℕ) → is_kept is_quoted b ≡ true
    → kept_behind end at is_quoted (b ∷ rest) ≡ kept_behind (at + 1) (at + 1) (quotes is_quoted b) rest
kept-byte end at true b rest h = kept-on at false rest
kept-byte end at false b rest h =
    elim (cases_Bool (b == 32)) [
      | inl space ↦ absurd (both_ways (not (b == 32)) (ap not space) h)
      | inr other ↦
          ap (λ v. cond (v && are_spaces rest) end (at + cond (v && are_spaces rest) 0 (suc (kept (b == 92) rest)))) other ∙ kept-on at (b == 92) rest
    ]

-- a space is kept where another byte behind it is
pub kept-space : (end at : ℕ) (is_quoted : Bool) (b : ℕ) (rest : List ℕ) → is_kept is_quoted b ≡ false
    → kept_behind end at is_quoted (b ∷ rest) ≡ kept_behind end (at + 1) (quotes is_quoted b) rest
kept-space end at true b rest h = absurd (both_ways true h refl)
kept-space end at false b rest h =
    elim (cases_Bool (b == 32)) [
      | inl space ↦
          let plain : (b == 92) ≡ false = ap (λ c. c == 92) (eqb-true b 32 space) in
          ap (λ v. cond (v && are_spaces rest) end (at + cond (v && are_spaces rest) 0 (suc (kept (b == 92) rest)))) space
          ∙ ap (λ v. cond (are_spaces rest) end (at + cond (are_spaces rest) 0 (suc (kept v rest)))) plain
          ∙ kept-later end at (kept false rest) (are_spaces rest)
          ∙ ap (λ v. kept_behind end (at + 1) v rest) (sym plain)
      | inr other ↦ absurd (both_ways (not (b == 32)) h (ap not other))
    ]

-- a space that isn't kept quotes nothing
pub quotes-space : (is_quoted : Bool) (b : ℕ) → is_kept is_quoted b ≡ false → quotes is_quoted b ≡ false
quotes-space true b h = refl
quotes-space false b h =
    elim (cases_Bool (b == 32)) [
      | inl space ↦ ap (λ c. c == 92) (eqb-true b 32 space)
      | inr other ↦ absurd (both_ways (not (b == 32)) h (ap not other))
    ]
