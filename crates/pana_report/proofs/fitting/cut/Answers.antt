use Rattle.std.proofs.Common.{ℕ, List, ◌++◌, ◌-◌, ◌/◌, ap, drop, length, sym, take, ◌∙◌}
use Rattle.std.specs.Prelude.{encode_utf8, encode_utf8_all}
use Rattle.pana_report.proofs.Cuts.{cut_pieces, last_of}
use Rattle.pana_report.proofs.fitting.cut.Goals as goal

pub returns : goal.returns
returns c =
    let all = c.args.all.now in
    let behind = c.args.kept / 2 in
    let front = c.in_ok-push_all.ensures ∙ ap (λ (text : List ℕ). text ++ encode_utf8_all (take (c.args.kept - behind) all)) c.new-text.ensures.bytes in
    c.in_ok-push_all-2.ensures
    ∙ ap (λ (text : List ℕ). text ++ encode_utf8_all (take (length all - (length all - behind)) (drop (length all - behind) all))) (c.in_ok-push.ensures.bytes ∙ ap (λ (text : List ℕ). text ++ encode_utf8 0x2026) front)
    ∙ ap (λ (back : List ℕ). encode_utf8_all (take (c.args.kept - behind) all) ++ encode_utf8 0x2026 ++ encode_utf8_all back) (last_of all (length all - behind))
    ∙ sym (cut_pieces c.args.kept all)
