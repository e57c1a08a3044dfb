-- The line of entries with a digest.
use Rattle.std.proofs.Common.{◌≡◌, ◌≤◌, ◌<◌, ℕ, zero, suc, ◌-◌, ◌/◌, ◌%◌, ◌&&◌, Bool, true, false, cond, nat_lt, List, [], ◌∷◌, ◌++◌, length, take, map, slice_index, Some, Ok, inl, inr, refl, sym, ap, ◌∙◌, subst, arith, append_assoc}
use Rattle.std.specs.Prelude.{codes, slice_get}
use Rattle.std.specs.Str.{is_utf8}
use Rattle.std.proofs.lemmas.Bool.{and_parts, cases_lt, le-ltb}
use Rattle.std.proofs.lemmas.List.{take_at, length-append}
use Rattle.std.specs.List.{All}
use Rattle.hex.specs.Hex.{IsBytes, encode_with, encode_lower, lower_digits}
use Rattle.json.specs.Print.{escape, escape_byte, escape_letter, quoted}
use Rattle.serde_json.specs.Data.{depth}
use Rattle.serde_json.specs.Read.{read, max_depth}
use Rattle.serde_json.specs.Written.{compact_text}
use Rattle.pana_journal.specs.declared.entry.Entry.{Entry}
use Rattle.pana_wire.specs.Lines.{lines_of}
use Rattle.pana_wire.specs.Line.{data_in, object_in}
use Rattle.pana_wire.specs.Dump.{dump_says, entries_text}
use Rattle.pana_wire.specs.Report.{entry_data}
use Rattle.pana_wire.specs.Reply.{entries_data, reply_data, reply_text}
use Rattle.pana_wire.specs.Seal.{mark, close, entries_body, sealed_text, IsSealedLine}
use Rattle.pana_wire.specs.inner.Names.{HasEntryNames}
use Rattle.pana_wire.specs.inner.SealedData.{sealed_data}
use Rattle.pana_wire.proofs.DumpBack.{objects_found}
use Rattle.pana_wire.proofs.EntriesBack.{entries_back, entries_shallow, all_objects}
use Rattle.pana_wire.proofs.OneLine.{IsInLine, text_in_line, lines_one}
use Rattle.pana_wire.proofs.Whole.{is_natural, entries_natural}

-- ---- digits stand in a string as they are

abbrev is_plain : ℕ → Bool
is_plain x = cond (nat_lt 0 (escape_letter x)) false (cond (nat_lt x 32) false true)

last_of : (a b : Bool) (x y z : List ℕ) → cond a false (cond b false true) ≡ true → cond a x (cond b y z) ≡ z
last_of true b x y z is = absurd (cc)
last_of false true x y z is = absurd (cc)
last_of false false x y z is = refl

plain_byte : (x : ℕ) → is_plain x ≡ true → escape_byte x ≡ x ∷ []
unfolding escape_byte
plain_byte x is = last_of (nat_lt 0 (escape_letter x)) (nat_lt x 32) _ _ (x ∷ []) is

-- the test of the first n digits, which computes
abbrev all_plain : List ℕ → ℕ → Bool
all_plain t zero = true
all_plain t (suc n) = is_plain (slice_index t n) && all_plain t n

plain_at : (t : List ℕ) (n k : ℕ) → all_plain t n ≡ true → k < n → is_plain (slice_index t k) ≡ true
plain_at t zero k is lt = absurd (omega arith)
plain_at t (suc n) k is lt =
    let parts = and_parts (is_plain (slice_index t n)) (all_plain t n) is in
    elim (cases_lt k n) [
      | inl below ↦ plain_at t n k parts.1 below
      | inr top ↦
          let e : k ≡ n = omega arith in
          rw e parts.0
    ]

digit_byte : (k : ℕ) → k < 16 → escape_byte (slice_index lower_digits k) ≡ slice_index lower_digits k ∷ []
digit_byte k lt = plain_byte (slice_index lower_digits k) (plain_at lower_digits 16 k refl lt)

digits_plain : (bytes : List ℕ) → IsBytes bytes → escape (encode_lower bytes) ≡ encode_lower bytes
unfolding encode_with
digits_plain [] are = refl
digits_plain (b ∷ bytes) are =
    let fits : b < 256 = are 0 in
    rw (digit_byte (b / 16) (omega arith), digit_byte (b % 16) (omega arith), digits_plain bytes (λ i. are (suc i))) refl

-- ---- the text

abbrev pub head_of : List Entry → List ℕ
head_of entries = 123 ∷ (quoted (codes "entries") ++ 58 ∷ compact_text (entries_data entries))

opened : (entries : List Entry) (rest : List ℕ) → 123 ∷ (quoted (codes "entries") ++ 58 ∷ (compact_text (entries_data entries) ++ rest)) ≡ head_of entries ++ rest
opened entries rest = ap (λ (t : List ℕ). 123 ∷ t) (sym (append_assoc (quoted (codes "entries")) (58 ∷ compact_text (entries_data entries)) rest))

entries_text_is : (entries : List Entry) → entries_text entries ≡ head_of entries ++ 125 ∷ []
unfolding reply_text reply_data
entries_text_is entries = opened entries (125 ∷ [])

but_last : (xs : List ℕ) (b : ℕ) → take (length (xs ++ b ∷ []) - 1) (xs ++ b ∷ []) ≡ xs
but_last xs b = take_at xs (b ∷ []) (length (xs ++ b ∷ []) - 1) (omega (arith, length-append xs (b ∷ [])))

pub body_is : (entries : List Entry) → entries_body entries ≡ head_of entries
body_is entries = ap (λ (t : List ℕ). take (length t - 1) t) (entries_text_is entries) ∙ but_last (head_of entries) 125

tail_is : (digest : List ℕ) → IsBytes digest → 44 ∷ (quoted (codes "sha256") ++ 58 ∷ (quoted (encode_lower digest) ++ 125 ∷ [])) ≡ mark ++ (encode_lower digest ++ close)
unfolding escape_byte
tail_is digest are =
    ap (λ (t : List ℕ). 44 ∷ (quoted (codes "sha256") ++ 58 ∷ 34 ∷ t))
    (ap (λ (t : List ℕ). (t ++ 34 ∷ []) ++ 125 ∷ []) (digits_plain digest are) ∙ append_assoc (encode_lower digest) (34 ∷ []) (125 ∷ []))

pub text_is : (entries : List Entry) (digest : List ℕ) → IsBytes digest → compact_text (sealed_data entries digest) ≡ sealed_text entries digest
unfolding sealed_data
text_is entries digest are =
    opened entries (44 ∷ (quoted (codes "sha256") ++ 58 ∷ (quoted (encode_lower digest) ++ 125 ∷ [])))
    ∙ ap (λ (t : List ℕ). head_of entries ++ t) (tail_is digest are)
    ∙ ap (λ (t : List ℕ). t ++ (mark ++ (encode_lower digest ++ close))) (sym (body_is entries))

-- ---- what it says

sealed_natural : (entries : List Entry) (digest : List ℕ) → is_natural (sealed_data entries digest) ≡ true
unfolding sealed_data entries_data
sealed_natural entries digest = rw (entries_natural entries) refl

pub sealed_shallow : (entries : List Entry) (digest : List ℕ) → depth (sealed_data entries digest) ≤ max_depth
unfolding sealed_data entries_data
sealed_shallow entries digest = omega (arith, entries_shallow entries)

pub sealed_back : (entries : List Entry) (digest line : List ℕ) → All HasEntryNames entries → is_utf8 line ≡ true → read line ≡ Some (sealed_data entries digest) → length line ≤ 1048576 → dump_says line ≡ Ok entries
unfolding dump_says data_in object_in sealed_data entries_data
sealed_back entries digest line names utf8 is short =
    let within : nat_lt 1048576 (length line) ≡ false = le-ltb 1048576 (length line) short in
    rw (within, utf8, is, objects_found (sealed_data entries digest) (map entry_data entries) refl (all_objects entries)) (entries_back entries names)

-- ---- the line

text_one : (entries : List Entry) (digest : List ℕ) → IsBytes digest → IsInLine (sealed_text entries digest)
text_one entries digest are = subst IsInLine (text_is entries digest are) (text_in_line (sealed_data entries digest) (sealed_natural entries digest))

text_opens : (entries : List Entry) (digest : List ℕ) → slice_get (sealed_text entries digest ++ 10 ∷ []) 0 ≡ Some 123
text_opens entries digest = ap (λ (t : List ℕ). slice_get ((t ++ (mark ++ (encode_lower digest ++ close))) ++ 10 ∷ []) 0) (body_is entries)

pub sealed_line : (entries : List Entry) (digest line : List ℕ) → IsBytes digest → length (sealed_text entries digest) ≤ 1048576 → dump_says (sealed_text entries digest) ≡ Ok entries → line ≡ sealed_text entries digest ++ 10 ∷ [] → IsSealedLine entries digest line
sealed_line entries digest line are short back is = record {
  text = is;
  one = ap lines_of is ∙ lines_one (sealed_text entries digest) (text_one entries digest are);
  opens = ap (λ (l : List ℕ). slice_get l 0) is ∙ text_opens entries digest;
  back = back;
  short = omega (arith, ap length is, length-append (sealed_text entries digest) (10 ∷ []), short);
}
