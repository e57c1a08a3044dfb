use Rattle.std.proofs.Common.{◌≡◌, ◌==◌, ◌+◌, ◌-◌, Some, None, take, drop, length, sym, ◌∙◌, refl, arith, rules, tests, length-drop}
use Rattle.std.specs.List.{position_from}
use Rattle.std.proofs.lemmas.Iterator.{YieldsList-from_slice}
use Rattle.std.proofs.lemmas.Iterator.Search.{position_from_yields_List}
use Rattle.std.proofs.lemmas.Iterator.Adapters.{position_from-zero}
use Rattle.std.proofs.lemmas.List.{take_all}
use Rattle.pana_ignore.proofs.Splits.{split-some, split-none}
use Rattle.pana_ignore.proofs.split.split_first.Goals as goal

pub returns-in-Some-clause-split : goal.returns-in-Some-clause-split
returns-in-Some-clause-split c =
    let at = c.in-Some.at in
    let text = c.args.text.now in
    let found : position_from (λ b. b == c.args.separator) 0 text ≡ Some at =
    sym (position_from-zero (λ b. b == c.args.separator) text) ∙ sym (position_from_yields_List (λ b. b == c.args.separator) _ _ c.position.result c.position.ensures.ran (YieldsList-from_slice text c.iter.ensures.rest) (λ x b q k. search (rules, tests))) ∙ c.in-Some.is in
    let rest : take (length text - (at + 1)) (drop (at + 1) text) ≡ drop (at + 1) text = take_all (length text - (at + 1)) (drop (at + 1) text) (omega (arith, length-drop (at + 1) text)) in
    let front : take (at - 0) text ≡ take at text = grind arith in
    let behind : drop (at - 0 + 1) text ≡ drop (at + 1) text = grind arith in
    (split-some (λ b. b == c.args.separator) 0 text at found).1 ∙ rw (front, behind, rest) refl

pub returns-in-None-clause-split : goal.returns-in-None-clause-split
returns-in-None-clause-split c =
    let text = c.args.text.now in
    let found : position_from (λ b. b == c.args.separator) 0 text ≡ None =
    sym (position_from-zero (λ b. b == c.args.separator) text) ∙ sym (position_from_yields_List (λ b. b == c.args.separator) _ _ c.position.result c.position.ensures.ran (YieldsList-from_slice text c.iter.ensures.rest) (λ x b q k. search (rules, tests))) ∙ c.in-None.is in
    split-none (λ b. b == c.args.separator) 0 text found
