use Rattle.std.proofs.Common.{◌≡◌, List, ◌++◌, ap, ◌∙◌}
use Rattle.std.proofs.lemmas.Str.{IsUtf8-string_bytes}
use Rattle.json.specs.Print.{print}
use Rattle.json.specs.Token.{Token}
use Rattle.json.specs.Tree.{json_tokens}
use Rattle.serde_json.specs.Written.{outline}
use Rattle.serde_json.proofs.Texts.{print-outline}
use Rattle.pana_wire.specs.Report.{entry_data}
use Rattle.pana_wire.proofs.entry_writing.encode_one.Goals as goal

pub returns : goal.returns
unfolding entry_data
returns c =
    let values = entry_data c.args.entry.now in
    let tokens : c.write_report.new.out.tokens ≡ json_tokens (outline values) = c.in_ok-write_report.ensures.tokens ∙ ap (λ (ts : List Token). ts ++ json_tokens (outline values)) c.begun_text-out.ensures.tokens in
    record {
      same = c.written_text.ensures ∙ ap print tokens ∙ print-outline values;
      names = (c.in_ok-write_report.ensures.by, c.in_ok-write_report.ensures.names);
      reads = c.in_ok-write_report.ensures.reads;
      utf8 = IsUtf8-string_bytes c.written_text.result;
    }
