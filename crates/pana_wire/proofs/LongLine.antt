-- A line of entries in the making, and that it is read back once it is whole.
use Rattle.std.proofs.Common.{◌≡◌, ◌≤◌, ◌<◌, ℕ, zero, suc, ◌+◌, ◌/◌, ◌%◌, ◌&&◌, Bool, true, false, nat_lt, List, [], ◌∷◌, ◌++◌, length, map, slice_index, Option, Some, Ok, inl, inr, refl, sym, ap, ◌∙◌, subst, arith, append_assoc, append-nil, length-append}
use Rattle.std.specs.Prelude.{option_and_then}
use Rattle.std.specs.List.{All}
use Rattle.std.specs.Str.{IsUtf8, is_utf8}
use Rattle.std.proofs.lemmas.Bool.{and_parts, cases_lt}
use Rattle.std.proofs.lemmas.List.Elements.{All-head, All-tail, All-push, All-weaker}
use Rattle.std.proofs.lemmas.Str.{IsUtf8-append, is_utf8-from_IsUtf8}
use Rattle.hex.proofs.HexLemmas.{length-encode_with}
use Rattle.hex.specs.Hex.{IsBytes, encode_with, encode_lower, lower_digits}
use Rattle.json.specs.Token.{Token}
use Rattle.json.specs.Lex.{tokens}
use Rattle.json.specs.Print.{escape_byte}
use Rattle.json.specs.Tree.{json_tokens, ItemsHaveNumbers}
use Rattle.json.specs.Tree as tree
use Rattle.json.specs.Json as json
use Rattle.json.proofs.Printed.Tokens.{tokens-print}
use Rattle.json.proofs.Printed.Trees.{value-json_tokens, ArePrintable-json_tokens}
use Rattle.json.proofs.Printed.Utf8.{are_ascii, IsUtf8-are_ascii}
use Rattle.serde_json.specs.Data.{Data, null, boolean, number, string, array, object, Items, no_items, item, Members, no_members, member, depth, items_depth, members_depth}
use Rattle.serde_json.specs.View.{items_of}
use Rattle.serde_json.specs.Read.{of_json, of_items, read, max_depth}
use Rattle.serde_json.specs.Written.{compact_text, items_text, comma_if, outline, items_outline, members_outline}
use Rattle.serde_json.proofs.Texts.{print-outline}
use Rattle.pana_journal.specs.declared.entry.Entry.{Entry}
use Rattle.pana_wire.specs.Dump.{dump_says}
use Rattle.pana_wire.specs.Report.{entry_data}
use Rattle.pana_calls.specs.declared.reply.Reply.TheVariants.{Journal}
use Rattle.pana_wire.specs.Reply.{entries_data, reply_data}
use Rattle.pana_wire.specs.Seal.{mark, close, seal_with, entries_body, sealed_text, IsSealedLine}
use Rattle.pana_wire.specs.inner.Names.{HasEntryNames}
use Rattle.pana_wire.specs.inner.LongLine.{IsReadable, IsKnown, IsTextOf, IsWritable, listed, opening, is_none, IsOpenLine, IsBody}
use Rattle.pana_wire.specs.inner.SealedData.{sealed_data}
use Rattle.pana_wire.proofs.Sealed.{body_is, text_is, sealed_shallow, sealed_back, sealed_line}

-- ---- the text

pub listed_more : (later : Bool) (entries : List Entry) (entry : Entry) → listed true (entries ++ entry ∷ []) ≡ listed true entries ++ (44 ∷ compact_text (entry_data entry))
listed_more later [] entry = ap (λ (t : List ℕ). 44 ∷ t) (append-nil (compact_text (entry_data entry)))
listed_more later (e ∷ entries) entry =
    ap (λ (t : List ℕ). 44 ∷ (compact_text (entry_data e) ++ t)) (listed_more later entries entry) ∙ ap (λ (t : List ℕ). 44 ∷ t) (sym (append_assoc (compact_text (entry_data e)) (listed true entries) (44 ∷ compact_text (entry_data entry))))

pub listed_first : (entries : List Entry) (entry : Entry) → is_none entries ≡ true → listed false (entries ++ entry ∷ []) ≡ listed false entries ++ compact_text (entry_data entry)
listed_first [] entry is = append-nil (compact_text (entry_data entry))
listed_first (e ∷ entries) entry is = absurd (cc)

pub listed_next : (entries : List Entry) (entry : Entry) → is_none entries ≡ false → listed false (entries ++ entry ∷ []) ≡ listed false entries ++ (44 ∷ compact_text (entry_data entry))
listed_next [] entry is = absurd (cc)
listed_next (e ∷ entries) entry is =
    ap (λ (t : List ℕ). compact_text (entry_data e) ++ t) (listed_more true entries entry) ∙ sym (append_assoc (compact_text (entry_data e)) (listed true entries) (44 ∷ compact_text (entry_data entry)))

items_listed : (later : Bool) (entries : List Entry) → items_text later (items_of (map entry_data entries)) ≡ listed later entries ++ 93 ∷ []
items_listed later [] = refl
items_listed later (entry ∷ entries) =
    ap (λ (t : List ℕ). comma_if later ++ (compact_text (entry_data entry) ++ t)) (items_listed true entries)
    ∙ ap (λ (t : List ℕ). comma_if later ++ t) (sym (append_assoc (compact_text (entry_data entry)) (listed true entries) (93 ∷ [])))
    ∙ sym (append_assoc (comma_if later) (compact_text (entry_data entry) ++ listed true entries) (93 ∷ []))

pub body_text : (entries : List Entry) → opening ++ (listed false entries ++ 93 ∷ []) ≡ entries_body entries
unfolding entries_data escape_byte
body_text entries = ap (λ (t : List ℕ). opening ++ t) (sym (items_listed false entries)) ∙ sym (body_is entries)

-- ---- what is written is read back

mutual
  outline_depth : (d : Data) → tree.depth (outline d) ≤ depth d
  outline_depth null = omega arith
  outline_depth (boolean b) = omega arith
  outline_depth (number n) = omega arith
  outline_depth (string s) = omega arith
  outline_depth (array ds) = omega (arith, items_deep ds)
  outline_depth (object ms) = omega (arith, members_deep ms)

  items_deep : (ds : Items) → tree.items_depth (items_outline ds) ≤ items_depth ds
  items_deep no_items = omega arith
  items_deep (item d ds) = omega (arith, outline_depth d, items_deep ds)

  members_deep : (ms : Members) → tree.members_depth (members_outline ms) ≤ members_depth ms
  members_deep no_members = omega arith
  members_deep (member k d ms) = omega (arith, outline_depth d, members_deep ms)

-- what was parsed, as a value
abbrev whole : Option (json.Json × List Token) → Option Data
whole o = option_and_then of_json (option_and_then (λ p. json.if_last p.0 p.1) o)

parsed : (text : List ℕ) (d : Data) → tokens text ≡ json_tokens (outline d) → depth d ≤ max_depth → json.value max_depth (tokens text) ≡ Some (outline d, [])
parsed text d same shallow =
    ap (json.value max_depth) (same ∙ sym (append-nil (json_tokens (outline d)))) ∙ value-json_tokens (outline d) max_depth [] (omega (arith, outline_depth d, shallow))

pub read_readable : (d : Data) → depth d ≤ max_depth → IsReadable d → read (compact_text d) ≡ Some d
read_readable d shallow is =
    let same : tokens (compact_text d) ≡ json_tokens (outline d) = ap tokens (sym (print-outline d)) ∙ tokens-print (json_tokens (outline d)) (ArePrintable-json_tokens (outline d) is.numbers) in
    ap whole (parsed (compact_text d) d same shallow) ∙ is.whole

items_whole : (entries : List Entry) → All IsKnown entries → of_items (items_outline (items_of (map entry_data entries))) ≡ Some (items_of (map entry_data entries))
items_whole [] each = refl
items_whole (entry ∷ entries) each = rw ((All-head IsKnown entry entries each).reads.whole, items_whole entries (All-tail IsKnown entry entries each)) refl

items_numbers : (entries : List Entry) → All IsKnown entries → ItemsHaveNumbers (items_outline (items_of (map entry_data entries)))
items_numbers [] each = tt
items_numbers (entry ∷ entries) each = ((All-head IsKnown entry entries each).reads.numbers, items_numbers entries (All-tail IsKnown entry entries each))

pub journal_readable : (entries : List Entry) → All IsKnown entries → IsReadable (reply_data (Journal entries))
unfolding reply_data entries_data
journal_readable entries each = record { whole = rw (items_whole entries each) refl; numbers = (items_numbers entries each, tt) }

all_known : (entries : List Entry) → All IsWritable entries → All IsKnown entries
all_known entries each = All-weaker IsWritable IsKnown (λ entry is. record { names = is.names; reads = is.reads }) entries each

sealed_readable : (entries : List Entry) (digest : List ℕ) → All IsWritable entries → IsReadable (sealed_data entries digest)
unfolding sealed_data entries_data
sealed_readable entries digest each = record { whole = rw (items_whole entries (all_known entries each)) refl; numbers = (items_numbers entries (all_known entries each), (tt, tt)) }

-- ---- it is text

all_ascii : List ℕ → ℕ → Bool
all_ascii t zero = true
all_ascii t (suc n) = nat_lt (slice_index t n) 128 && all_ascii t n

ascii_at : (t : List ℕ) (n k : ℕ) → all_ascii t n ≡ true → k < n → nat_lt (slice_index t k) 128 ≡ true
unfolding all_ascii
ascii_at t zero k is lt = absurd (omega arith)
ascii_at t (suc n) k is lt =
    let parts = and_parts (nat_lt (slice_index t n) 128) (all_ascii t n) is in
    elim (cases_lt k n) [
      | inl below ↦ ascii_at t n k parts.1 below
      | inr top ↦
          let e : k ≡ n = omega arith in
          rw e parts.0
    ]

digit_ascii : (k : ℕ) → k < 16 → nat_lt (slice_index lower_digits k) 128 ≡ true
unfolding all_ascii
digit_ascii k lt = ascii_at lower_digits 16 k refl lt

digits_ascii : (bytes : List ℕ) → IsBytes bytes → are_ascii (encode_lower bytes) ≡ true
unfolding encode_with
digits_ascii [] are = refl
digits_ascii (b ∷ bytes) are =
    let fits : b < 256 = are 0 in
    rw (digit_ascii (b / 16) (omega arith), digit_ascii (b % 16) (omega arith), digits_ascii bytes (λ i. are (suc i))) refl

comma_utf8 : (later : Bool) → IsUtf8 (comma_if later)
comma_utf8 true = IsUtf8-are_ascii (44 ∷ []) refl
comma_utf8 false = IsUtf8-are_ascii [] refl

listed_utf8 : (later : Bool) (entries : List Entry) → All IsWritable entries → IsUtf8 (listed later entries)
listed_utf8 later [] each = IsUtf8-are_ascii [] refl
listed_utf8 later (entry ∷ entries) each =
    IsUtf8-append _ _ (comma_utf8 later) (IsUtf8-append _ _ (All-head IsWritable entry entries each).utf8 (listed_utf8 true entries (All-tail IsWritable entry entries each)))

body_utf8 : (entries : List Entry) → All IsWritable entries → IsUtf8 (entries_body entries)
body_utf8 entries each =
    subst IsUtf8 (body_text entries) (IsUtf8-append _ _ (IsUtf8-are_ascii opening refl) (IsUtf8-append _ _ (listed_utf8 false entries each) (IsUtf8-are_ascii (93 ∷ []) refl)))

sealed_utf8 : (entries : List Entry) (digest : List ℕ) → IsBytes digest → All IsWritable entries → is_utf8 (sealed_text entries digest) ≡ true
sealed_utf8 entries digest are each =
    is_utf8-from_IsUtf8 _ (IsUtf8-append _ _ (body_utf8 entries each)
    (IsUtf8-append _ _ (IsUtf8-are_ascii mark refl) (IsUtf8-append _ _ (IsUtf8-are_ascii (encode_lower digest) (digits_ascii digest are)) (IsUtf8-are_ascii close refl))))

-- ---- the line

all_names : (entries : List Entry) → All IsWritable entries → All HasEntryNames entries
all_names entries each = All-weaker IsWritable HasEntryNames (λ entry is. is.names) entries each

whole_back : (entries : List Entry) (digest : List ℕ) → IsBytes digest → All IsWritable entries → length (sealed_text entries digest) ≤ 1048576 → dump_says (sealed_text entries digest) ≡ Ok entries
whole_back entries digest are each short =
    let reads : read (sealed_text entries digest) ≡ Some (sealed_data entries digest) =
    ap read (sym (text_is entries digest are)) ∙ read_readable (sealed_data entries digest) (sealed_shallow entries digest) (sealed_readable entries digest each) in
    sealed_back entries digest (sealed_text entries digest) (all_names entries each) (sealed_utf8 entries digest are each) reads short

pub whole_line : (entries : List Entry) (digest body line : List ℕ) → IsBytes digest → IsBody entries body → line ≡ ((body ++ mark) ++ encode_lower digest) ++ (close ++ 10 ∷ []) → length line ≤ 1048577 → IsSealedLine entries digest line
whole_line entries digest body line are is made short =
    let text : line ≡ sealed_text entries digest ++ 10 ∷ [] =
    made ∙ sym (append_assoc ((body ++ mark) ++ encode_lower digest) close (10 ∷ [])) ∙ ap (λ (t : List ℕ). t ++ 10 ∷ [])
    (append_assoc (body ++ mark) (encode_lower digest) close ∙ append_assoc body mark (encode_lower digest ++ close) ∙ ap (λ (t : List ℕ). t ++ seal_with digest) (is.text ∙ body_text entries)) in
    let within : length (sealed_text entries digest) ≤ 1048576 = omega (arith, short, ap length text, length-append (sealed_text entries digest) (10 ∷ [])) in
    sealed_line entries digest line are within (whole_back entries digest are is.each within) text

none_more : (entries : List Entry) (entry : Entry) → is_none (entries ++ entry ∷ []) ≡ false
none_more [] entry = refl
none_more (e ∷ entries) entry = refl

all_more : (entries : List Entry) (entry : Entry) → All IsWritable entries → IsWritable entry → All IsWritable (entries ++ entry ∷ [])
all_more entries entry each is = All-push IsWritable entries entry each is

writable : (entry : Entry) (text : List ℕ) → IsTextOf entry text → IsWritable entry
writable entry text is = subst (IsTextOf entry) is.same is

-- the first entry of a line, and another
pub first_pushed : (entries : List Entry) (entry : Entry) (old text new : List ℕ) → IsOpenLine entries old → true ≡ is_none entries → IsTextOf entry text → new ≡ old ++ text → IsOpenLine (entries ++ entry ∷ []) new
first_pushed entries entry old text new is none one made = record {
  text = made ∙ ap (λ (t : List ℕ). t ++ text) is.text ∙ append_assoc opening (listed false entries) text ∙ ap (λ (t : List ℕ). opening ++ (listed false entries ++ t)) one.same ∙ ap (λ (t : List ℕ). opening ++ t) (sym (listed_first entries entry (sym none)));
  each = all_more entries entry is.each (writable entry text one);
}

pub next_pushed : (entries : List Entry) (entry : Entry) (old text new : List ℕ) → IsOpenLine entries old → false ≡ is_none entries → IsTextOf entry text → new ≡ (old ++ 44 ∷ []) ++ text → IsOpenLine (entries ++ entry ∷ []) new
next_pushed entries entry old text new is some one made = record {
  text = made ∙ append_assoc old (44 ∷ []) text ∙ ap (λ (t : List ℕ). t ++ (44 ∷ text)) is.text ∙ append_assoc opening (listed false entries) (44 ∷ text) ∙ ap (λ (t : List ℕ). opening ++ (listed false entries ++ (44 ∷ t))) one.same ∙ ap (λ (t : List ℕ). opening ++ t) (sym (listed_next entries entry (sym some)));
  each = all_more entries entry is.each (writable entry text one);
}

pub second_pushed : (entries : List Entry) (entry next : Entry) (new : List ℕ) → IsOpenLine ((entries ++ entry ∷ []) ++ next ∷ []) new → IsOpenLine (entries ++ (entry ∷ next ∷ [])) new
second_pushed entries entry next new is = subst (λ (es : List Entry). IsOpenLine es new) (append_assoc entries (entry ∷ []) (next ∷ [])) is

pub some_before : (entries : List Entry) (entry : Entry) → false ≡ is_none (entries ++ entry ∷ [])
some_before entries entry = sym (none_more entries entry)

pub sealed_length : (body digest : List ℕ) → length digest ≡ 32 → length body + 78 ≤ 1048577 → length (((body ++ mark) ++ encode_lower digest) ++ (close ++ 10 ∷ [])) ≤ 1048577
sealed_length body digest long room =
    omega (arith, room, length-append ((body ++ mark) ++ encode_lower digest) (close ++ 10 ∷ []), length-append (body ++ mark) (encode_lower digest), length-append body mark, length-encode_with lower_digits digest, long)
