use Rattle.std.proofs.Common.{◌≡◌, ◌<◌, length, ◌∙◌, ap, arith}
use Rattle.std.proofs.lemmas.Bool.Decides.{nat_tests}
use Rattle.pana_log.specs.Lines.{recovered, text_of}
use Rattle.pana_log.proofs.Ends.{whole_text}
use Rattle.pana_log.proofs.lines.is_whole.Goals as goal

pub returns-then-not-is_empty : goal.returns-then-not-is_empty
returns-then-not-is_empty c =
    let text = c.args.text.now in
    let some : 0 < length text = grind (arith, nat_tests, c.if-not-is_empty.true, c.is_empty.ensures) in (
      λ test. let same : length text ≡ length (text_of (recovered text)) = grind (arith, nat_tests, test, c.whole_length.ensures.length) in record { some = some; same = whole_text text same },
      λ whole. let same : c.whole_length.result ≡ length text = c.whole_length.ensures.length ∙ ap length whole.same in grind (arith, nat_tests, same),
    )
