use Rattle.std.proofs.Common.{ℕ, List, ◌++◌, ap, sym, append_assoc, take, string_bytes, ◌∙◌}
use Rattle.std.specs.Prelude.{encode_utf8, encode_utf8_all}
use Rattle.pana_report.proofs.Cuts.{encodes_more}
use Rattle.pana_report.proofs.fitting.push_all.Goals as goal

pub loop-c-preserved : goal.loop-c-preserved
loop-c-preserved c =
    let all = c.args.all.now in
    let index = c.loop-c.c-index in
    c.in_ok-push.ensures.bytes ∙ ap (λ (text : List ℕ). text ++ encode_utf8 c.c-item.result) c.loop-c.invariant
    ∙ append_assoc (string_bytes c.args.text.now) (encode_utf8_all (take index all)) (encode_utf8 c.c-item.result)
    ∙ ap (λ (more : List ℕ). string_bytes c.args.text.now ++ more) (sym (encodes_more all index c.c-item.result c.loop-c-test.true c.c-item.is))
