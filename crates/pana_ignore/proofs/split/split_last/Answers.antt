use Rattle.std.proofs.Common.{◌≡◌, ◌==◌, ◌-◌, ◌++◌, ◌∷◌, [], get_or, take, drop, length, sym, ◌∙◌, ap, arith, length-drop}
use Rattle.std.proofs.lemmas.List.{take_all}
use Rattle.pana_ignore.specs.Match.{split}
use Rattle.pana_ignore.proofs.Splits.{split-at, apart-at}
use Rattle.pana_ignore.proofs.split.split_last.Goals as goal

pub returns-then-text-start : goal.returns-then-text-start
returns-then-text-start c =
    let text = c.args.text.now in
    let start = c.loop-start.start in
    let is : get_or text (start - 1) 0 ≡ c.args.separator = omega arith in
    let rest : take (length text - start) (drop start text) ≡ drop start text = take_all (length text - start) (drop start text) (omega (arith, length-drop start text)) in
    split-at c.args.separator text start (omega arith) c.loop-start.invariant.within is
    ∙ ap (λ behind. split (λ b. b == c.args.separator) (take (start - 1) text) ++ behind) (c.loop-start.invariant.apart ∙ ap (λ behind. behind ∷ []) (sym rest))

pub loop-start-preserved : goal.loop-start-preserved
loop-start-preserved c = record {
  within = omega (arith, c.loop-start.invariant.within);
  apart = apart-at c.args.separator c.args.text.now c.loop-start.start (omega arith) c.loop-start.invariant.within (λ is. omega arith) c.loop-start.invariant.apart;
}
