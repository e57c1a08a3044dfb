-- The word that a text is.
use Rattle.std.proofs.Common.{◌≡◌, ℕ, Bool, true, false, cond, List, [], ◌∷◌, Option, Some, None, find, refl, subst}
use Rattle.std.specs.Prelude.{IfSome}
use Rattle.std.specs.Str.{bytes_eq}
use Rattle.std.proofs.lemmas.Slice.Eq.{bytes_eq-Decides}
use Rattle.pana_ask.specs.declared.report_word.ReportWord.{ReportWord}
use Rattle.pana_ask.specs.Words.{all_words, word_name, word_of}

find_passes : {X : Type 0} (p : X → Bool) (xs : List X) (x : X) → find p xs ≡ Some x → p x ≡ true
find_passes p [] x found = absurd (cc)
find_passes p (y ∷ xs) x found =
    elim (p y) as (λ b. p y ≡ b → cond b (Some y) (find p xs) ≡ Some x → p x ≡ true) [
      | true ↦ λ e f. let same : y ≡ x = cc in subst (λ z. p z ≡ true) same e
      | false ↦ λ e f. find_passes p xs x f
    ] refl found

-- what is found is spelled so
pub found_named : (text : List ℕ) (found : Option ReportWord) → found ≡ word_of text → IfSome found (λ word. word_name word ≡ text)
unfolding word_of
found_named text None is = tt
found_named text (Some word) is =
    (bytes_eq-Decides (word_name word) text).0 (find_passes (λ w. bytes_eq (word_name w) text) all_words word (cc))
