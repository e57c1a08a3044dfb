use Rattle.std.proofs.Common.{◌≡◌, ◌≤◌, ◌++◌, List, length, sym, subst, ap, ◌∙◌}
use Rattle.std.specs.Prelude.{string_bytes}
use Rattle.std.proofs.lemmas.Str.{IsUtf8-string_bytes, is_utf8-from_IsUtf8}
use Rattle.json.specs.Print.{print}
use Rattle.json.specs.Token.{Token}
use Rattle.json.specs.Tree.{json_tokens}
use Rattle.serde_json.specs.Read.{read}
use Rattle.serde_json.specs.Written.{outline}
use Rattle.serde_json.proofs.Texts.{print-outline}
use Rattle.pana_wire.specs.Report.{report_data, report_text}
use Rattle.pana_wire.proofs.LongLine.{read_readable}
use Rattle.pana_wire.proofs.ReadBack.{report_shallow, line_back}
use Rattle.pana_wire.proofs.Short.{report_short}
use Rattle.pana_wire.proofs.report_writing.encode_call.Goals as goal

pub returns-clause-text : goal.returns-clause-text
unfolding report_text report_data
returns-clause-text c =
    let values = report_data c.args.by.now c.args.report.now in
    let tokens : c.write_report.new.out.tokens ≡ json_tokens (outline values) = c.in_ok-write_report.ensures.tokens ∙ ap (λ (ts : List Token). ts ++ json_tokens (outline values)) c.begun_text-out.ensures.tokens in
    c.written_text.ensures ∙ ap print tokens ∙ print-outline values

pub returns-clause-back : goal.returns-clause-back
unfolding report_text report_data
returns-clause-back c =
    let by = c.args.by.now in
    let report = c.args.report.now in
    let named = c.in_ok-write_report.ensures.by in
    let names = c.in_ok-write_report.ensures.names in
    let same : string_bytes c.written_text.result ≡ report_text by report = returns-clause-text c in
    line_back by (string_bytes c.written_text.result) report named names (is_utf8-from_IsUtf8 _ (IsUtf8-string_bytes c.written_text.result))
    (ap read same ∙ read_readable (report_data by report) (report_shallow by report) c.in_ok-write_report.ensures.reads)
    (subst (λ bytes. length bytes ≤ 65536) (sym same) (report_short by report named names))
