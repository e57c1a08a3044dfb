-- Laws of answering lines one after another.
use Rattle.std.proofs.Common.{◌≡◌, ℕ, ◌+◌, List, [], ◌∷◌, ◌++◌, take, refl, sym, ap, subst, ◌∙◌, append_assoc, inl, inr, arith}
use Rattle.pana_calls.specs.declared.call.Call.{Call}
use Rattle.pana_calls.specs.declared.answer.Answer.{Answer}
use Rattle.pana_wire.specs.Session.{AnswersLine, AnswersLines}
use Rattle.pana_wire.proofs.Lines.{says_cut, text_cut}

module _ {S : Type 0} (step : S → List ℕ → Call → Answer → S → Type 0) where
  pub one_answered : (old : S) (line text : List ℕ) (new : S) (n : ℕ) → AnswersLine step old line text new n → AnswersLines step old (line ∷ []) (text ++ 10 ∷ []) new n
  one_answered old line text new n a = (new, text, [], n, 0, a, (refl, refl, refl), refl, omega arith)

  pub lines_append : (old : S) (ls ms : List (List ℕ)) (xs ys : List ℕ) (mid new : S) (m n : ℕ)
      → AnswersLines step old ls xs mid m → AnswersLines step mid ms ys new n → AnswersLines step old (ls ++ ms) (xs ++ ys) new (m + n)
  lines_append old [] ms xs ys mid new m n p q =
      let none : m ≡ 0 = p.2 in
      let sum : n ≡ m + n = omega arith in
      subst (λ k. AnswersLines step old ms (xs ++ ys) new k) sum
      (subst (λ o. AnswersLines step old ms (o ++ ys) new n) (sym p.0) (subst (λ s. AnswersLines step s ms ys new n) p.1 q))
  lines_append old (l ∷ ls) ms xs ys mid new m n p q =
      let (at, text, rest, first, others, line, lines, whole, count) = p in (
        at,
        text,
        rest ++ ys,
        first,
        others + n,
        line,
        lines_append at ls ms rest ys mid new others n lines q,
        ap (λ o. o ++ ys) whole ∙ append_assoc text (10 ∷ rest) ys,
        omega arith,
      )

  pub line_cut : (old : S) (line text : List ℕ) (new : S) (steps : ℕ) → AnswersLine step old (take 65537 line) text new steps → AnswersLine step old line text new steps
  line_cut old line text new steps a = elim a [
    | inl said ↦ inl (rw (← says_cut line) said)
    | inr out ↦ inr (out.0, out.1, out.2, text_cut line out.3)
  ]
