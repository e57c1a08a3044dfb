use Rattle.std.proofs.Common.{◌≡◌, ◌+◌, ◌∷◌, [], false, get_or, drop, take, refl, sym, ◌∙◌, ap, arith, add-one}
use Rattle.std.proofs.Math.Seq.{drop-cons}
use Rattle.std.proofs.Math.ListN.{drop_of_length-le}
use Rattle.std.proofs.lemmas.Bool.{both_ways}
use Rattle.pana_ignore.specs.inner.Kept.{quotes, kept, kept_behind}
use Rattle.pana_ignore.proofs.Kept.{trimmed-kept, kept-all, kept-end, kept-byte, kept-space, quotes-space}
use Rattle.pana_ignore.proofs.lines.trimmed.Goals as goal
use Rattle.pana_ignore.proofs.lines.trimmed.Goals.{then-is_kept, else-is_kept}

pub loop-i-init : goal.loop-i-init
loop-i-init c = record {
  kept = kept-all c.args.text.now;
  within = omega arith;
  quoted = λ h. refl;
}

pub loop-i-preserved : goal.loop-i-preserved
loop-i-preserved c =
    let text = c.args.text.now in
    let i = c.loop-i.i in
    let b = get_or text i 0 in
    let q = c.loop-i.is_quoted in
    let there : drop i text ≡ b ∷ drop (i + 1) text = rw add-one (drop-cons text i 0 (omega arith)) in
    let before : kept false text ≡ kept_behind c.loop-i.end i q (b ∷ drop (i + 1) text) = c.loop-i.invariant.kept ∙ ap (kept_behind c.loop-i.end i q) there in
    let quoted : c.quotes-is_quoted.result ≡ quotes q b = c.quotes-is_quoted.ensures in
    elim c.if-is_kept.branch [
      | then-is_kept w ↦ record {
        kept = before ∙ kept-byte c.loop-i.end i q b (drop (i + 1) text) (sym c.is_kept.ensures ∙ w.if-is_kept.true) ∙ sym (rw (quoted, w.end-is) refl);
        within = omega (arith, w.end-is);
        quoted = λ h. w.end-is;
      }
      | else-is_kept w ↦
          let space = sym c.is_kept.ensures ∙ w.if-is_kept.false in record {
            kept = before ∙ kept-space c.loop-i.end i q b (drop (i + 1) text) space ∙ sym (rw (quoted, w.end-is) refl);
            within = omega (arith, w.end-is, c.loop-i.invariant.within);
            quoted = λ h. absurd (both_ways c.quotes-is_quoted.result (quoted ∙ quotes-space q b space) h);
          }
    ]

pub returns : goal.returns
returns c =
    let text = c.args.text.now in
    let none : drop c.loop-i.i text ≡ [] = drop_of_length-le text (omega arith) in
    let all : kept false text ≡ c.loop-i.end =
    c.loop-i.invariant.kept ∙ ap (kept_behind c.loop-i.end c.loop-i.i c.loop-i.is_quoted) none ∙ kept-end c.loop-i.end c.loop-i.i c.loop-i.is_quoted c.loop-i.invariant.quoted in
    c.split_at.ensures.front ∙ ap (λ n. take n text) (sym all) ∙ sym (trimmed-kept false text)
