-- Each number in an entry and in a reply is a whole one from 0 on, and reports and entries are shallow.
use Rattle.std.specs.Prelude.{◌≡◌, ℕ, ◌==◌, ◌&&◌, Bool, true, false, List, [], ◌∷◌, map, codes, Option, Some, None}
use Rattle.std.specs.Ordering.{match_ordering}
use Rattle.std.specs.List.{list_all}
use Rattle.std.proofs.Common.{Ordering, Less, Equal, Greater, refl}
use Rattle.std.proofs.lemmas.Bool.{and_parts, eqb-true}
use Rattle.serde_json.specs.Data.{unsigned, Data, null, boolean, number, string, array, object, Items, no_items, item, Members, no_members, member, put, depth, members_depth}
use Rattle.serde_json.specs.View.{items_of}
use Rattle.pana_calls.specs.declared.copy_stamp.CopyStamp.{CopyStamp}
use Rattle.pana_journal.specs.declared.entry.Entry.{Entry}
use Rattle.pana_journal.specs.declared.report.Report.{Report}
use Rattle.pana_journal.specs.declared.report.Report.TheVariants as reports
use Rattle.pana_calls.specs.declared.family_row.FamilyRow.{FamilyRow}
use Rattle.pana_calls.specs.declared.holding.Holding.{Holding}
use Rattle.pana_calls.specs.declared.board.BoardRow.{BoardRow}
use Rattle.pana_calls.specs.declared.standing.CopyStanding.{CopyStanding}
use Rattle.pana_calls.specs.declared.standing.StatusRow.{StatusRow}
use Rattle.pana_calls.specs.declared.reply.Reply.{Reply}
use Rattle.pana_calls.specs.declared.reply.Reply.TheVariants.{Done, Did, Known, Families, Board, Stamps, Pair, Holdings, At, Status, Journal, Counts, Refused}
use Rattle.pana_wire.specs.declared.field.Field.{Field}
use Rattle.pana_wire.specs.declared.field.Field.TheVariants as fields
use Rattle.pana_wire.specs.Field.{field_name}
use Rattle.pana_wire.specs.Word.{word_name, fields_of}
use Rattle.pana_wire.specs.Report.{number_data, report_word, sum_contents, contents_of, put_fields, put_report, report_data, entry_data}
use Rattle.pana_wire.specs.Reply.{family_data, families_data, with_sum, holding_data, holdings_data, standing_data, at_data, placed_data, status_row_data, status_data, entries_data, counts_data, numbers_data, row_data, rows_data, board_data, stamp_data, stamps_data, refusal_data, refused_data, number_or_null, reply_data}

-- each number of a value is a whole one from 0 on
abbrev mutual
  pub is_natural : Data → Bool
  is_natural null = true
  is_natural (boolean b) = true
  is_natural (number (unsigned n)) = true
  is_natural (number n) = false
  is_natural (string s) = true
  is_natural (array ds) = items_natural ds
  is_natural (object ms) = members_natural ms

  pub items_natural : Items → Bool
  items_natural no_items = true
  items_natural (item d ds) = is_natural d && items_natural ds

  pub members_natural : Members → Bool
  members_natural no_members = true
  members_natural (member k d ms) = is_natural d && members_natural ms

-- a value is flat where it is such a number, or a text, or has nothing else in it
unfoldable pub is_flat : Data → Bool
is_flat d = is_natural d && depth d == 0

abbrev pub are_flat : Members → Bool
are_flat no_members = true
are_flat (member k d ms) = is_flat d && are_flat ms

either_flat : (o : Ordering) (a b c : Members) → are_flat a ≡ true → are_flat b ≡ true → are_flat c ≡ true → are_flat (match_ordering o a b c) ≡ true
either_flat Less a b c first second third = first
either_flat Equal a b c first second third = second
either_flat Greater a b c first second third = third

put_flat : (k : List ℕ) (d : Data) (ms : Members) → is_flat d ≡ true → are_flat ms ≡ true → are_flat (put k d ms) ≡ true
put_flat k d no_members flat are = rw flat refl
put_flat k d (member l e ms) flat are =
    let parts = and_parts (is_flat e) (are_flat ms) are in
    either_flat _ (member k d (member l e ms)) (member l d ms) (member l e (put k d ms)) (rw flat are) (rw flat parts.1) (rw parts.0 (put_flat k d ms flat parts.1))

fields_flat : (fs : List Field) (ds : List Data) (ms : Members) → list_all is_flat ds ≡ true → are_flat ms ≡ true → are_flat (put_fields fs ds ms) ≡ true
fields_flat [] ds ms flat are = are
fields_flat (f ∷ fs) [] ms flat are = are
fields_flat (f ∷ fs) (d ∷ ds) ms flat are = let parts = and_parts (is_flat d) (list_all is_flat ds) flat in fields_flat fs ds (put (field_name f) d ms) parts.1 (put_flat (field_name f) d ms parts.0 are)

sum_flat : (sum : Option (List ℕ)) → list_all is_flat (sum_contents sum) ≡ true
unfolding is_flat
sum_flat None = refl
sum_flat (Some sum) = refl

contents_flat : (report : Report) → list_all is_flat (contents_of report) ≡ true
unfolding is_flat
contents_flat (reports.Register place sum) = sum_flat sum
contents_flat (reports.Duplicate copy place sum) = sum_flat sum
contents_flat (reports.Edit copy sum) = sum_flat sum
contents_flat (reports.Reconcile a b sum) = sum_flat sum
contents_flat (reports.Merge a b sum) = sum_flat sum
contents_flat (reports.Relocate copy place) = refl
contents_flat (reports.Remove copy None) = refl
contents_flat (reports.Remove copy (Some heir)) = refl
contents_flat (reports.Note copy sum) = refl
contents_flat (reports.Confirm entry) = refl
contents_flat (reports.Withdraw entry) = refl

report_flat : (by : List ℕ) (report : Report) (ms : Members) → are_flat ms ≡ true → are_flat (put_report by report ms) ≡ true
unfolding put_report is_flat
report_flat by report ms are = fields_flat (fields.By ∷ fields.Do ∷ fields_of (report_word report)) (string by ∷ string (word_name (report_word report)) ∷ contents_of report) ms (contents_flat report) are

flat_natural : (ms : Members) → are_flat ms ≡ true → members_natural ms ≡ true
unfolding is_flat
flat_natural no_members are = refl
flat_natural (member k d ms) are = let parts = and_parts (is_flat d) (are_flat ms) are in rw ((and_parts (is_natural d) (depth d == 0) parts.0).0, flat_natural ms parts.1) refl

flat_shallow : (ms : Members) → are_flat ms ≡ true → members_depth ms ≡ 0
unfolding is_flat
flat_shallow no_members are = refl
flat_shallow (member k d ms) are = let parts = and_parts (is_flat d) (are_flat ms) are in rw (eqb-true (depth d) 0 (and_parts (is_natural d) (depth d == 0) parts.0).1, flat_shallow ms parts.1) refl

pub report_depth : (by : List ℕ) (report : Report) → depth (report_data by report) ≡ 1
unfolding report_data
report_depth by report = rw (flat_shallow (put_report by report no_members) (report_flat by report no_members refl)) refl

entry_flat : (entry : Entry) → are_flat (put_report entry.by entry.report (put (field_name fields.Number) (number_data entry.number) no_members)) ≡ true
unfolding is_flat
entry_flat entry = report_flat entry.by entry.report _ refl

pub entry_natural : (entry : Entry) → is_natural (entry_data entry) ≡ true
unfolding entry_data
entry_natural entry = flat_natural _ (entry_flat entry)

pub entry_depth : (entry : Entry) → depth (entry_data entry) ≡ 1
unfolding entry_data
entry_depth entry = rw (flat_shallow _ (entry_flat entry)) refl

numbers_natural : (numbers : List ℕ) → items_natural (items_of (map number_data numbers)) ≡ true
numbers_natural [] = refl
numbers_natural (n ∷ numbers) = numbers_natural numbers

rows_natural : (rows : List BoardRow) → items_natural (items_of (map row_data rows)) ≡ true
unfolding row_data
rows_natural [] = refl
rows_natural (row ∷ rows) = rows_natural rows

families_natural : (rows : List FamilyRow) → items_natural (items_of (map family_data rows)) ≡ true
unfolding family_data
families_natural [] = refl
families_natural (row ∷ rows) = families_natural rows

stamps_natural : (stamps : List CopyStamp) → items_natural (items_of (map stamp_data stamps)) ≡ true
unfolding stamp_data
stamps_natural [] = refl
stamps_natural (stamp ∷ stamps) = stamps_natural stamps

with_sum_natural : (sum : Option (List ℕ)) (ms : Members) → are_flat ms ≡ true → is_natural (with_sum sum (object ms)) ≡ true
unfolding is_flat
with_sum_natural None ms are = flat_natural ms are
with_sum_natural (Some sum) ms are = flat_natural (put (codes "sum") (string sum) ms) (put_flat (codes "sum") (string sum) ms refl are)

holding_natural : (holding : Holding) → is_natural (holding_data holding) ≡ true
unfolding holding_data is_flat
holding_natural holding = with_sum_natural holding.sum _ refl

holdings_natural : (holdings : List Holding) → items_natural (items_of (map holding_data holdings)) ≡ true
holdings_natural [] = refl
holdings_natural (holding ∷ holdings) = rw (holding_natural holding) (holdings_natural holdings)

at_natural : (standing : Option CopyStanding) → is_natural (at_data standing) ≡ true
unfolding standing_data is_flat
at_natural None = refl
at_natural (Some standing) = with_sum_natural standing.sum _ refl

status_natural : (rows : List StatusRow) → items_natural (items_of (map status_row_data rows)) ≡ true
unfolding status_row_data placed_data
status_natural [] = refl
status_natural (row ∷ rows) = status_natural rows

pub entries_natural : (entries : List Entry) → items_natural (items_of (map entry_data entries)) ≡ true
entries_natural [] = refl
entries_natural (entry ∷ entries) = rw (entry_natural entry) (entries_natural entries)

refusal_natural : (code : ℕ) (copy : Option ℕ) (name : List ℕ) → is_natural (refusal_data code copy name) ≡ true
refusal_natural code None name = refl
refusal_natural code (Some copy) name = refl

number_or_null_natural : (number : Option ℕ) → is_natural (number_or_null number) ≡ true
number_or_null_natural None = refl
number_or_null_natural (Some n) = refl

pub reply_natural : (reply : Reply) → is_natural (reply_data reply) ≡ true
unfolding reply_data board_data numbers_data rows_data families_data stamps_data holdings_data status_data entries_data counts_data refused_data
reply_natural (Done entry) = refl
reply_natural (Did kind entry) = refl
reply_natural (Known copy) = rw (number_or_null_natural copy) refl
reply_natural (Families rows) = rw (families_natural rows) refl
reply_natural (Board board) = rw (rows_natural board.rows, numbers_natural board.newest) refl
reply_natural (Stamps stamps) = rw (stamps_natural stamps) refl
reply_natural (Pair rel) = refl
reply_natural (Holdings holdings) = rw (holdings_natural holdings) refl
reply_natural (At standing) = rw (at_natural standing) refl
reply_natural (Status rows) = rw (status_natural rows) refl
reply_natural (Journal entries) = rw (entries_natural entries) refl
reply_natural (Counts counts) = refl
reply_natural (Refused cause) = refusal_natural _ _ _
