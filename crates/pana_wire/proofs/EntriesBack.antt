-- The line of a Journal reply is read back as its entries.
use Rattle.std.proofs.Common.{◌≡◌, ℕ, ◌≤◌, true, false, List, [], ◌∷◌, length, map, nat_lt, Some, None, Ok, ◌⊎◌, inl, inr, refl, sym, subst, arith}
use Rattle.std.specs.List.{All}
use Rattle.std.specs.Str.{is_utf8}
use Rattle.std.proofs.lemmas.Bool.{le-ltb}
use Rattle.std.proofs.lemmas.List.Elements.{All-head, All-tail}
use Rattle.serde_json.specs.Data.{Data, object, no_members, put, depth, items_depth}
use Rattle.serde_json.specs.Read.{read, max_depth}
use Rattle.serde_json.specs.View.{items_of}
use Rattle.pana_copies.specs.Names.{is_device}
use Rattle.pana_journal.specs.declared.entry.Entry.{Entry}
use Rattle.pana_journal.specs.declared.report.Report.{Report}
use Rattle.pana_journal.specs.declared.report.Report.TheVariants as reports
use Rattle.pana_calls.specs.declared.reply.Reply.TheVariants.{Journal}
use Rattle.pana_wire.specs.declared.field.Field.TheVariants as fields
use Rattle.pana_wire.specs.Field.{field_name}
use Rattle.pana_wire.specs.Word.{word_of}
use Rattle.pana_wire.specs.Line.{device_in, path_in, number_in, sum_in, number_or_none, sum_or_none, place_in, word_in, numbered_in, report_in, object_in, data_in}
use Rattle.pana_wire.specs.Dump.{are_objects, entry_in, entries_in, dump_says, IsReadBack}
use Rattle.pana_wire.specs.Report.{number_data, put_report, entry_data}
use Rattle.pana_wire.specs.Reply.{entries_data, reply_data, reply_text}
use Rattle.pana_wire.specs.inner.Names.{HasNames, HasEntryNames}
use Rattle.pana_wire.proofs.DumpBack.{objects_found}
use Rattle.pana_wire.proofs.Short.{page_short}
use Rattle.pana_wire.proofs.Whole.{entry_depth}

abbrev entry_object : ℕ → List ℕ → Report → Data
entry_object n by report = object (put_report by report (put (field_name fields.Number) (number_data n) no_members))

entry_back : (n : ℕ) (by : List ℕ) (report : Report) → is_device by ≡ true → HasNames report
    → entry_in (entry_object n by report) ≡ Ok (record { number = n; by = by; report = report })
unfolding put_report entry_in report_in numbered_in word_in place_in device_in path_in number_in sum_in number_or_none sum_or_none word_of
entry_back n by (reports.Register place None) named names = rw (named, names.0.0, names.0.1) refl
entry_back n by (reports.Register place (Some sum)) named names = rw (named, names.0.0, names.0.1, names.1) refl
entry_back n by (reports.Duplicate copy place None) named names = rw (named, names.0.0, names.0.1) refl
entry_back n by (reports.Duplicate copy place (Some sum)) named names = rw (named, names.0.0, names.0.1, names.1) refl
entry_back n by (reports.Edit copy None) named names = rw named refl
entry_back n by (reports.Edit copy (Some sum)) named names = rw (named, names) refl
entry_back n by (reports.Reconcile a b None) named names = rw named refl
entry_back n by (reports.Reconcile a b (Some sum)) named names = rw (named, names) refl
entry_back n by (reports.Merge a b None) named names = rw named refl
entry_back n by (reports.Merge a b (Some sum)) named names = rw (named, names) refl
entry_back n by (reports.Relocate copy place) named names = rw (named, names.0, names.1) refl
entry_back n by (reports.Remove copy None) named names = rw named refl
entry_back n by (reports.Remove copy (Some heir)) named names = rw named refl
entry_back n by (reports.Note copy sum) named names = rw (named, names) refl
entry_back n by (reports.Confirm entry) named names = rw named refl
entry_back n by (reports.Withdraw entry) named names = rw named refl

pub entries_back : (entries : List Entry) → All HasEntryNames entries → entries_in (map entry_data entries) ≡ Ok entries
unfolding entry_data
entries_back [] names = refl
entries_back (entry ∷ entries) names =
    let named = All-head HasEntryNames entry entries names in
    rw (entry_back entry.number entry.by entry.report named.0 named.1, entries_back entries (All-tail HasEntryNames entry entries names)) refl

pub entries_shallow : (entries : List Entry) → items_depth (items_of (map entry_data entries)) ≤ 1
entries_shallow [] = omega arith
entries_shallow (entry ∷ entries) = omega (arith, entry_depth entry, entries_shallow entries)

pub all_objects : (entries : List Entry) → are_objects (map entry_data entries) ≡ true
unfolding entry_data
all_objects [] = refl
all_objects (entry ∷ entries) = all_objects entries

reply_shallow : (entries : List Entry) → depth (reply_data (Journal entries)) ≤ max_depth
unfolding reply_data entries_data
reply_shallow entries = omega (arith, entries_shallow entries)

dump_back : (line : List ℕ) (entries : List Entry) → All HasEntryNames entries → is_utf8 line ≡ true → read line ≡ Some (reply_data (Journal entries))
    → length line ≤ 1048576 → dump_says line ≡ Ok entries
unfolding dump_says data_in object_in reply_data entries_data
dump_back line entries names utf8 is short =
    let within : nat_lt 1048576 (length line) ≡ false = le-ltb 1048576 (length line) short in
    rw (within, utf8, is, objects_found (reply_data (Journal entries)) (map entry_data entries) refl (all_objects entries)) (entries_back entries names)

few_or_short : (entries : List Entry) (line : List ℕ) → All HasEntryNames entries → line ≡ reply_text (Journal entries)
    → (length entries ≤ 100) ⊎ (length line ≤ 1048576) → length line ≤ 1048576
few_or_short entries line names is (inl few) = subst (λ text. length text ≤ 1048576) (sym is) (page_short entries names few)
few_or_short entries line names is (inr short) = short

pub page_back : (entries : List Entry) (line : List ℕ) → All HasEntryNames entries → line ≡ reply_text (Journal entries) → is_utf8 line ≡ true → (depth (reply_data (Journal entries)) ≤ max_depth → read line ≡ Some (reply_data (Journal entries)))
    → IsReadBack (Journal entries) line
page_back entries line names is utf8 reads short = dump_back line entries names utf8 (reads (reply_shallow entries)) (few_or_short entries line names is short)
