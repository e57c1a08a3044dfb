-- Worked examples of the definitions, by computation.
use Rattle.std.proofs.Common.{◌≡◌, ℕ, List, [], refl, subst, arith, Ok, Err, inl, inr}
use Rattle.std.specs.Prelude.{codes}
use Rattle.std.proofs.lemmas.Fmt.{decimal_digit}
use Rattle.pana_id.specs.Id.{zero_id, one_id, pair}
use Rattle.pana_event.specs.Event.{leaf, fork}
use Rattle.pana_text.specs.declared.fault.TextFault.{TextFault}
use Rattle.pana_text.specs.declared.fault.TextFault.TheVariants.{Syntax, NotNormal, TooLarge}
use Rattle.pana_text.specs.inner.Reading.{number_at, fork_number_at, stamp_at}
use Rattle.pana_text.specs.Text.{stamp_text, IsTextOfStamp}
use Rattle.pana_text.specs.Grammar.{leaf as spelled_leaf, fork as spelled_fork, IsInGrammar, Says}
use Rattle.pana_text.proofs.Checked.{Stamped, checked, checked_stamped}

text_of_two : stamp_text (pair one_id zero_id) (fork 0 (leaf 1) (leaf 0)) ≡ codes "((1,0),(0,1,0))"
text_of_two = rw (decimal_digit 0 (omega arith), decimal_digit 1 (omega arith)) refl

in_grammar : IsInGrammar (codes "((1,0),(0,1,0))")
in_grammar = (
  pair one_id zero_id,
  spelled_fork (codes "0") (spelled_leaf (codes "1")) (spelled_leaf (codes "0")),
  (inl (refl, refl), inr (omega arith, omega arith, refl), inl (refl, refl)),
  refl,
)

-- what is no stamp's normal text, but of the grammar
large : IsInGrammar (codes "((1,1),99999999999999999999)")
large = (pair one_id one_id, spelled_leaf (codes "99999999999999999999"), inr (omega arith, omega arith, refl), refl)

says : (text : List ℕ) (e : TextFault) → checked text ≡ Err e → Says e text
says text e h = subst (Stamped text) h (checked_stamped text)

a_stamp : IsTextOfStamp (codes "((1,0),(0,1,0))")
unfolding stamp_at number_at fork_number_at
a_stamp = let checks : checked (codes "((1,0),(0,1,0))") ≡ Ok tt = refl in subst (Stamped (codes "((1,0),(0,1,0))")) checks (checked_stamped (codes "((1,0),(0,1,0))"))

two_ones : Says NotNormal (codes "((1,1),0)")
unfolding stamp_at number_at fork_number_at
two_ones = says (codes "((1,1),0)") NotNormal refl

not_from_zero : Says NotNormal (codes "(1,(1,2,2))")
unfolding stamp_at number_at fork_number_at
not_from_zero = says (codes "(1,(1,2,2))") NotNormal refl

form_before_level : Says NotNormal (codes "((1,1),18446744073709551616)")
unfolding stamp_at number_at fork_number_at
form_before_level = says (codes "((1,1),18446744073709551616)") NotNormal refl

above_most : Says TooLarge (codes "(1,18446744073709551616)")
unfolding stamp_at number_at fork_number_at
above_most = says (codes "(1,18446744073709551616)") TooLarge refl

sum_above_most : Says TooLarge (codes "(1,(1,18446744073709551615,0))")
unfolding stamp_at number_at fork_number_at
sum_above_most = says (codes "(1,(1,18446744073709551615,0))") TooLarge refl

zero_first : Says (Syntax 4) (codes "(1,01)")
unfolding stamp_at number_at fork_number_at
zero_first = says (codes "(1,01)") (Syntax 4) refl

ends_early : Says (Syntax 2) (codes "(1")
unfolding stamp_at number_at fork_number_at
ends_early = says (codes "(1") (Syntax 2) refl

after_the_end : Says (Syntax 5) (codes "(1,0)x")
unfolding stamp_at number_at fork_number_at
after_the_end = says (codes "(1,0)x") (Syntax 5) refl

three_in_an_id : Says (Syntax 5) (codes "((1,0,0),0)")
unfolding stamp_at number_at fork_number_at
three_in_an_id = says (codes "((1,0,0),0)") (Syntax 5) refl

empty : Says (Syntax 0) []
unfolding stamp_at number_at fork_number_at
empty = says [] (Syntax 0) refl
