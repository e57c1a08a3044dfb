use Rattle.std.proofs.Common.{ℕ, List, ◌++◌, false, get_or, take, sym, ap, ap₂, ◌∙◌, arith}
use Rattle.std.proofs.lemmas.List.{length-take-le, take_more}
use Rattle.pana_history.specs.Svg.{line_paths}
use Rattle.pana_history.specs.declared.mark.Sign.TheVariants.{Plain}
use Rattle.pana_history.proofs.Pictured.{lines_push}
use Rattle.pana_history.proofs.svg.line_paths.Goals as goal

pub loop-mark-preserved : goal.loop-mark-preserved
loop-mark-preserved c =
    let marks = c.args.marks.now in
    let i = c.loop-mark.mark-index in
    let far = c.loop-mark.invariant in
    let x = far.x in
    let within = c.loop-mark-test.true in
    let count = length-take-le i marks (omega arith) in
    let mark = get_or marks i (record { lives_before = false; lives_after = false; sign = Plain }) in
    record {
      text =
          c.in_ok-push_str.ensures.bytes
          ∙ ap₂ (λ (a b : List ℕ). a ++ b) far.text (c.as_str.ensures.value ∙ c.in_ok-line_path.ensures)
          ∙ sym (ap (line_paths 16) (take_more marks i (record { lives_before = false; lives_after = false; sign = Plain }) within) ∙ lines_push 16 (take i marks) mark c.loop-mark.x (omega arith));
      x = omega arith;
    }
