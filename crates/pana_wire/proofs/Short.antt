-- The text of a report, and that of 100 entries, is short enough to be read back.
use Rattle.std.proofs.Common.{◌≡◌, ℕ, zero, suc, ◌+◌, ◌*◌, ◌≤◌, ◌==◌, ◌&&◌, ◌/◌, ◌%◌, Bool, true, false, cond, if◌then◌else◌, List, [], ◌∷◌, ◌++◌, length, map, nat_le, nat_lt, Option, Some, None, Ordering, Less, Equal, Greater, refl, arith}
use Rattle.std.specs.Char.{digit_char}
use Rattle.std.specs.List.{All, list_all}
use Rattle.std.specs.Ordering.{match_ordering}
use Rattle.std.specs.Fmt.{decimal, digits, digits_onto, digit_glyph}
use Rattle.std.proofs.lemmas.Bool.{leb-true, and_parts, eqb-true}
use Rattle.std.proofs.lemmas.List.{length-append}
use Rattle.std.proofs.lemmas.List.Elements.{All-head, All-tail}
use Rattle.json.specs.Print.{escape, escape_byte, escape_letter, quoted}
use Rattle.serde_json.specs.Data.{unsigned, negative, float, Data, null, boolean, number, string, array, object, Items, no_items, item, Members, no_members, member, put}
use Rattle.serde_json.specs.View.{items_of}
use Rattle.serde_json.specs.Written.{compact_text, items_text, members_text, comma_if, number_text}
use Rattle.pana_copies.specs.Names.{is_device, is_path}
use Rattle.pana_copies.specs.Sums.{is_sum, is_sum_digit}
use Rattle.pana_journal.specs.declared.entry.Entry.{Entry}
use Rattle.pana_journal.specs.declared.report.Report.{Report}
use Rattle.pana_journal.specs.declared.report.Report.TheVariants as reports
use Rattle.pana_calls.specs.declared.reply.Reply.TheVariants as replies
use Rattle.pana_wire.specs.declared.field.Field.{Field}
use Rattle.pana_wire.specs.declared.field.Field.TheVariants as fields
use Rattle.pana_wire.specs.Field.{field_name}
use Rattle.pana_wire.specs.Word.{word_name, fields_of}
use Rattle.pana_wire.specs.Report.{number_data, sum_contents, contents_of, report_word, put_fields, put_report, report_data, report_text, entry_data}
use Rattle.pana_wire.specs.Reply.{entries_data, reply_data, reply_text}
use Rattle.pana_wire.specs.inner.Names.{IsSumOrNone, HasNames, HasEntryNames}

either_short : (b : Bool) (most : ℕ) (xs ys : List ℕ) → length xs ≤ most → length ys ≤ most → length (cond b xs ys) ≤ most
either_short true most xs ys first second = first
either_short false most xs ys first second = second

byte_short : (x : ℕ) → length (escape_byte x) ≤ 6
unfolding escape_byte
byte_short x =
    let code : List ℕ = 92 ∷ 117 ∷ 48 ∷ 48 ∷ digit_char (x / 16) ∷ digit_char (x % 16) ∷ [] in
    either_short (nat_lt 0 (escape_letter x)) 6 (92 ∷ escape_letter x ∷ []) (cond (nat_lt x 32) code (x ∷ [])) (omega arith)
    (either_short (nat_lt x 32) 6 code (x ∷ []) (omega arith) (omega arith))

escape_short : (s : List ℕ) → length (escape s) ≤ 6 * length s
escape_short [] = omega arith
escape_short (x ∷ s) = omega (arith, length-append (escape_byte x) (escape s), byte_short x, escape_short s)

quoted_short : (s : List ℕ) → length (quoted s) ≤ 6 * length s + 2
quoted_short s = omega (arith, length-append (escape s) (34 ∷ []), escape_short s)

last_or_more : (b : Bool) (k : ℕ) (acc more : List ℕ) (x : ℕ) → length more ≤ k + suc (length acc) → length (if b then x ∷ acc else more) ≤ suc k + length acc
last_or_more true k acc more x short = omega arith
last_or_more false k acc more x short = omega (arith, short)

digits_short : (k n : ℕ) (acc : List ℕ) → length (digits_onto k 10 false n acc) ≤ k + length acc
digits_short zero n acc = omega arith
digits_short (suc k) n acc = last_or_more (n / 10 == 0) k acc _ _ (digits_short k (n / 10) (digit_glyph false (n % 10) ∷ acc))

decimal_short : (n : ℕ) → length (decimal n) ≤ 64
unfolding digits
decimal_short n = omega (arith, digits_short 64 n [])

-- how long the text of a value may be
abbrev mutual
  size : Data → ℕ
  size null = 4
  size (boolean b) = 5
  size (number (unsigned n)) = 64
  size (number n) = length (number_text n)
  size (string s) = 6 * length s + 2
  size (array ds) = suc (items_size ds)
  size (object ms) = suc (members_size ms)

  items_size : Items → ℕ
  items_size no_items = 1
  items_size (item d ds) = 1 + size d + items_size ds

  members_size : Members → ℕ
  members_size no_members = 1
  members_size (member k d ms) = 4 + 6 * length k + size d + members_size ms

comma_short : (later : Bool) → length (comma_if later) ≤ 1
comma_short true = omega arith
comma_short false = omega arith

mutual
  fits : (d : Data) → length (compact_text d) ≤ size d
  fits null = omega arith
  fits (boolean true) = omega arith
  fits (boolean false) = omega arith
  fits (number (unsigned n)) = decimal_short n
  fits (number (negative z)) = omega arith
  fits (number (float x)) = omega arith
  fits (string s) = quoted_short s
  fits (array ds) = omega (arith, items_fit false ds)
  fits (object ms) = omega (arith, members_fit false ms)

  items_fit : (later : Bool) (ds : Items) → length (items_text later ds) ≤ items_size ds
  items_fit later no_items = omega arith
  items_fit later (item d ds) =
      omega (arith, length-append (comma_if later) (compact_text d ++ items_text true ds), comma_short later, length-append (compact_text d) (items_text true ds), fits d, items_fit true ds)

  members_fit : (later : Bool) (ms : Members) → length (members_text later ms) ≤ members_size ms
  members_fit later no_members = omega arith
  members_fit later (member k d ms) =
      omega (
        arith,
        length-append (comma_if later) (quoted k ++ 58 ∷ (compact_text d ++ members_text true ms)),
        comma_short later,
        length-append (quoted k) (58 ∷ (compact_text d ++ members_text true ms)),
        quoted_short k,
        length-append (compact_text d) (members_text true ms),
        fits d,
        members_fit true ms,
      )

middle : (a b c : Bool) → (a && b && c) ≡ true → b ≡ true
middle true true c is = refl
middle true false c is = absurd (cc)
middle false b c is = absurd (cc)

length_short : (low most n : ℕ) (rest : Bool) → (nat_le low n && nat_le n most && rest) ≡ true → n ≤ most
length_short low most n rest is = leb-true n most (middle (nat_le low n) (nat_le n most) rest is)

device_short : (text : List ℕ) → is_device text ≡ true → length text ≤ 32
device_short text is = length_short 1 32 (length text) _ is

path_short : (text : List ℕ) → is_path text ≡ true → length text ≤ 1024
path_short text is = length_short 1 1024 (length text) _ is

sum_short : (text : List ℕ) → is_sum text ≡ true → length text ≡ 64
sum_short text is = eqb-true (length text) 64 (and_parts (length text == 64) (list_all is_sum_digit text) is).0

-- how long the text of members in these fields may be
abbrev fields_size : List Field → List Data → ℕ
fields_size (field ∷ fields) (d ∷ ds) = 4 + 6 * length (field_name field) + size d + fields_size fields ds
fields_size _ _ = 0

either_size : (o : Ordering) (most : ℕ) (a b c : Members) → members_size a ≤ most → members_size b ≤ most → members_size c ≤ most → members_size (match_ordering o a b c) ≤ most
either_size Less most a b c first second third = first
either_size Equal most a b c first second third = second
either_size Greater most a b c first second third = third

put_size : (k : List ℕ) (d : Data) (ms : Members) → members_size (put k d ms) ≤ 4 + 6 * length k + size d + members_size ms
put_size k d no_members = omega arith
put_size k d (member l e ms) =
    either_size _ (4 + 6 * length k + size d + members_size (member l e ms)) (member k d (member l e ms)) (member l d ms) (member l e (put k d ms)) (omega arith) (omega arith) (omega (arith, put_size k d ms))

fields_fit : (fs : List Field) (ds : List Data) (ms : Members) → members_size (put_fields fs ds ms) ≤ fields_size fs ds + members_size ms
fields_fit [] ds ms = omega arith
fields_fit (f ∷ fs) [] ms = omega arith
fields_fit (f ∷ fs) (d ∷ ds) ms = omega (arith, fields_fit fs ds (put (field_name f) d ms), put_size (field_name f) d ms)

sum_fits : (sum : Option (List ℕ)) → IsSumOrNone sum → fields_size (fields.Sum ∷ []) (sum_contents sum) ≤ 500
sum_fits None is = omega arith
sum_fits (Some sum) is = omega (arith, sum_short sum is)

contents_fit : (by : List ℕ) (report : Report) → is_device by ≡ true → HasNames report
    → fields_size (fields.By ∷ fields.Do ∷ fields_of (report_word report)) (string by ∷ string (word_name (report_word report)) ∷ contents_of report) ≤ 7500
contents_fit by (reports.Register place sum) named names = omega (arith, device_short by named, device_short place.device names.0.0, path_short place.path names.0.1, sum_fits sum names.1)
contents_fit by (reports.Duplicate copy place sum) named names = omega (arith, device_short by named, device_short place.device names.0.0, path_short place.path names.0.1, sum_fits sum names.1)
contents_fit by (reports.Edit copy sum) named names = omega (arith, device_short by named, sum_fits sum names)
contents_fit by (reports.Reconcile a b sum) named names = omega (arith, device_short by named, sum_fits sum names)
contents_fit by (reports.Merge a b sum) named names = omega (arith, device_short by named, sum_fits sum names)
contents_fit by (reports.Relocate copy place) named names = omega (arith, device_short by named, device_short place.device names.0, path_short place.path names.1)
contents_fit by (reports.Remove copy None) named names = omega (arith, device_short by named)
contents_fit by (reports.Remove copy (Some heir)) named names = omega (arith, device_short by named)
contents_fit by (reports.Note copy sum) named names = omega (arith, device_short by named, sum_short sum names)
contents_fit by (reports.Confirm entry) named names = omega (arith, device_short by named)
contents_fit by (reports.Withdraw entry) named names = omega (arith, device_short by named)

report_fits : (by : List ℕ) (report : Report) (ms : Members) → is_device by ≡ true → HasNames report → members_size (put_report by report ms) ≤ 7500 + members_size ms
unfolding put_report
report_fits by report ms named names =
    omega (arith, fields_fit (fields.By ∷ fields.Do ∷ fields_of (report_word report)) (string by ∷ string (word_name (report_word report)) ∷ contents_of report) ms, contents_fit by report named names)

pub report_short : (by : List ℕ) (report : Report) → is_device by ≡ true → HasNames report → length (report_text by report) ≤ 65536
unfolding report_text report_data
report_short by report named names = omega (arith, fits (report_data by report), report_fits by report no_members named names)

entry_short : (entry : Entry) → HasEntryNames entry → size (entry_data entry) ≤ 8000
unfolding entry_data
entry_short entry names = omega (arith, report_fits entry.by entry.report (put (field_name fields.Number) (number_data entry.number) no_members) names.0 names.1)

entries_short : (entries : List Entry) → All HasEntryNames entries → items_size (items_of (map entry_data entries)) ≤ 1 + 8001 * length entries
entries_short [] names = omega arith
entries_short (entry ∷ entries) names = omega (arith, entry_short entry (All-head HasEntryNames entry entries names), entries_short entries (All-tail HasEntryNames entry entries names))

pub page_short : (entries : List Entry) → All HasEntryNames entries → length entries ≤ 100 → length (reply_text (replies.Journal entries)) ≤ 1048576
unfolding reply_text reply_data entries_data
page_short entries names few = omega (arith, fits (reply_data (replies.Journal entries)), entries_short entries names)
