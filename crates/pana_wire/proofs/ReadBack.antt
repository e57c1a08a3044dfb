-- The line of a report is read back as the report.
use Rattle.std.specs.Prelude.{◌≡◌, ℕ, ◌≤◌, true, false, List, length, nat_lt, Some, None, Ok}
use Rattle.std.proofs.Common.{refl, arith}
use Rattle.std.specs.Str.{is_utf8}
use Rattle.std.proofs.lemmas.Bool.{le-ltb}
use Rattle.serde_json.specs.Data.{depth}
use Rattle.serde_json.specs.Read.{read, max_depth}
use Rattle.pana_copies.specs.Names.{is_device}
use Rattle.pana_journal.specs.declared.report.Report.{Report}
use Rattle.pana_journal.specs.declared.report.Report.TheVariants.{Register, Duplicate, Edit, Reconcile, Merge, Relocate, Remove, Note, Confirm, Withdraw}
use Rattle.pana_calls.specs.declared.call.Call.TheVariants as calls
use Rattle.pana_wire.specs.Line.{device_in, path_in, number_in, sum_in, number_or_none, sum_or_none, place_in, word_in, numbered_in, report_in, asked_in, call_in, message_in, object_in, text_in, data_in, line_says}
use Rattle.pana_wire.specs.Word.{word_of}
use Rattle.pana_wire.specs.Report.{put_report, report_data}
use Rattle.pana_wire.specs.inner.Names.{HasNames}
use Rattle.pana_wire.proofs.Whole.{report_depth}

object_back : (by : List ℕ) (report : Report) → object_in (report_data by report) ≡ Ok (report_data by report)
unfolding report_data put_report object_in
object_back by report = refl

message_back : (by : List ℕ) (report : Report) → is_device by ≡ true → HasNames report
    → message_in (report_data by report) ≡ Ok (record { by = by; call = calls.Report report })
unfolding report_data put_report message_in call_in asked_in report_in numbered_in word_in place_in device_in path_in number_in sum_in number_or_none sum_or_none word_of
message_back by (Register place None) named names = rw (named, names.0.0, names.0.1) refl
message_back by (Register place (Some sum)) named names = rw (named, names.0.0, names.0.1, names.1) refl
message_back by (Duplicate copy place None) named names = rw (named, names.0.0, names.0.1) refl
message_back by (Duplicate copy place (Some sum)) named names = rw (named, names.0.0, names.0.1, names.1) refl
message_back by (Edit copy None) named names = rw named refl
message_back by (Edit copy (Some sum)) named names = rw (named, names) refl
message_back by (Reconcile a b None) named names = rw named refl
message_back by (Reconcile a b (Some sum)) named names = rw (named, names) refl
message_back by (Merge a b None) named names = rw named refl
message_back by (Merge a b (Some sum)) named names = rw (named, names) refl
message_back by (Relocate copy place) named names = rw (named, names.0, names.1) refl
message_back by (Remove copy None) named names = rw named refl
message_back by (Remove copy (Some heir)) named names = rw named refl
message_back by (Note copy sum) named names = rw (named, names) refl
message_back by (Confirm entry) named names = rw named refl
message_back by (Withdraw entry) named names = rw named refl

pub report_shallow : (by : List ℕ) (report : Report) → depth (report_data by report) ≤ max_depth
report_shallow by report = omega (arith, report_depth by report)

pub line_back : (by line : List ℕ) (report : Report) → is_device by ≡ true → HasNames report
    → is_utf8 line ≡ true → read line ≡ Some (report_data by report) → length line ≤ 65536
    → line_says line ≡ Ok (record { by = by; call = calls.Report report })
unfolding line_says text_in data_in
line_back by line report named names utf8 is short =
    let within : nat_lt 65536 (length line) ≡ false = le-ltb 65536 (length line) short in
    rw (within, utf8, is, object_back by report) (message_back by report named names)
