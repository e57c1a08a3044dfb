-- A list of flat objects is read as the entries that they say.
use Rattle.std.proofs.Common.{◌≡◌, ℕ, ◌≤◌, true, not, List, [], ◌∷◌, ◌++◌, length, map, Some, option_map, option_and_then, Result, Ok, Err, refl, sym, ap, ◌∙◌, arith, append_assoc}
use Rattle.std.specs.List.{AllByRecursion, list_all}
use Rattle.std.specs.Result.{result_ok}
use Rattle.std.specs.Str.{bytes_eq}
use Rattle.std.proofs.lemmas.Bool.{and_parts, false≢true}
use Rattle.std.proofs.lemmas.List.{map-append}
use Rattle.std.proofs.lemmas.Slice.Eq.{bytes_eq-Decides}
use Rattle.json.specs.Token.{Token}
use Rattle.json.specs.Lex.{tokens}
use Rattle.json.specs.Json as json
use Rattle.json.specs.Tree.{json_tokens, items_tokens, members_tokens, items_depth}
use Rattle.serde_json.specs.Data.{Data, object, array, Members, no_members, put, item}
use Rattle.serde_json.specs.Find.{get_member, as_array}
use Rattle.serde_json.specs.Read.{of_json, of_items, of_members, read}
use Rattle.serde_json.specs.View.{items_of}
use Rattle.serde_json.proofs.Views.{get_member-put, get_member-put_other}
use Rattle.pana_journal.specs.declared.entry.Entry.{Entry}
use Rattle.pana_wire.specs.declared.field.Field.TheVariants as fields
use Rattle.pana_wire.specs.declared.flat_object.Member.{Member}
use Rattle.pana_wire.specs.declared.flat_object.FlatObject.{FlatObject}
use Rattle.pana_wire.specs.Field.{field_name}
use Rattle.pana_wire.specs.declared.fault.WireFault.{WireFault}
use Rattle.pana_wire.specs.Line.{Gives, data_in, object_in}
use Rattle.pana_wire.specs.Dump.{are_objects, entry_in, entries_in, objects_in}
use Rattle.pana_wire.specs.inner.FlatObject.{AreSound, content_data, flat_json, members_then, put_all}
use Rattle.pana_wire.specs.inner.FlatEntries.{AreListed, objects_then, text_says}
use Rattle.pana_wire.proofs.DumpBack.{entries_more, objects_found}
use Rattle.pana_wire.proofs.FlatObject.{all_tokens, members_are, members_json, read_json, shallow}

abbrev AllSound : List FlatObject → Type 0
AllSound os = AllByRecursion (λ o. AreSound o.members.items) os

-- ---- one more entry

-- members are tokens
pub members_long : (ms : List Member) (ts : List Token) → length ts ≤ length (members_then ms ts)
members_long [] ts = omega arith
members_long (m ∷ ms) ts = omega (arith, members_long ms ts)

object_more : (os : List FlatObject) (o : FlatObject) (rest : List Token)
    → objects_then os (Token.begin_object ∷ members_then o.members.items (Token.end_object ∷ rest)) ≡ objects_then (os ++ o ∷ []) rest
object_more [] o rest = refl
object_more (p ∷ os) o rest = ap (λ (l : List Token). Token.begin_object ∷ members_then p.members.items (Token.end_object ∷ l)) (object_more os o rest)

sound_more : (os : List FlatObject) (o : FlatObject) → AllSound os → AreSound o.members.items → AllSound (os ++ o ∷ [])
sound_more [] o sound last = (last, tt)
sound_more (p ∷ os) o sound last = (sound.0, sound_more os o sound.1 last)

pub listed_more : (ts now rest : List Token) (entries : List Entry) (o : FlatObject) (entry : Entry) → AreListed ts now entries
    → now ≡ Token.begin_object ∷ members_then o.members.items (Token.end_object ∷ rest) → AreSound o.members.items → entry_in (flat_json o) ≡ Ok entry → AreListed ts rest (entries ++ entry ∷ [])
listed_more ts now rest entries o entry so is sound says = record {
  objects = so.objects ++ o ∷ [];
  come = so.come ∙ ap (objects_then so.objects) is ∙ object_more so.objects o rest;
  sound = sound_more so.objects o so.sound sound;
  say = ap entries_in (map-append flat_json so.objects (o ∷ [])) ∙ entries_more (map flat_json so.objects) (flat_json o) entries entry so.say says;
}

-- an entry that came back is the one that is said
pub entry_said : (r : Result Entry WireFault) (entry : Entry) (said : Result Entry WireFault) → Some entry ≡ result_ok r → Gives r said → said ≡ Ok entry
entry_said (Ok found) entry said is gives = let same : entry ≡ found = cc in gives ∙ ap Ok (sym same)
entry_said (Err fault) entry said is gives = absurd (cc)

-- ---- the list in JSON

abbrev items_json : List FlatObject → json.Items
items_json [] = json.no_items
items_json (o ∷ os) = json.item (json.object (members_json o.members.items)) (items_json os)

list_tokens : (os : List FlatObject) (ts : List Token) → objects_then os (Token.end_array ∷ ts) ≡ items_tokens (items_json os) ++ ts
list_tokens [] ts = refl
list_tokens (o ∷ os) ts =
    let one = members_tokens (members_json o.members.items) in
    ap (λ (l : List Token). Token.begin_object ∷ members_then o.members.items (Token.end_object ∷ l)) (list_tokens os ts)
    ∙ ap (λ (l : List Token). Token.begin_object ∷ l) (all_tokens o.members.items (items_tokens (items_json os) ++ ts) ∙ sym (append_assoc one (items_tokens (items_json os)) ts))

low : (os : List FlatObject) → items_depth (items_json os) ≤ 1
low [] = omega arith
low (o ∷ os) = omega (arith, shallow o.members.items, low os)

items_are : (os : List FlatObject) → AllSound os → of_items (items_json os) ≡ Some (items_of (map flat_json os))
items_are [] sound = refl
items_are (o ∷ os) sound =
    let is : of_json (json.object (members_json o.members.items)) ≡ Some (flat_json o) = ap (option_map object) (members_are o.members.items no_members sound.0) in
    ap (option_and_then (λ d. option_map (item d) (of_items (items_json os)))) is ∙ ap (option_map (item (flat_json o))) (items_are os sound.1)

objects_all : (os : List FlatObject) → are_objects (map flat_json os) ≡ true
objects_all [] = refl
objects_all (o ∷ os) = objects_all os

-- ---- the line

-- members of other names are put in
kept : (name : List ℕ) (ms : List Member) (found : Members) → list_all (λ m. not (bytes_eq m.name.now name)) ms ≡ true → get_member name (put_all ms found) ≡ get_member name found
kept name [] found others = refl
kept name (m ∷ ms) found others =
    let parts = and_parts (not (bytes_eq m.name.now name)) (list_all (λ m. not (bytes_eq m.name.now name)) ms) others in
    let differ : name ≡ m.name.now → ⊥ = λ same. false≢true (ap not (sym ((bytes_eq-Decides m.name.now name).1 (sym same))) ∙ parts.0) in
    kept name ms (put m.name.now (content_data m.content) found) parts.1 ∙ get_member-put_other name m.name.now (content_data m.content) found differ

says_objects : (text : List ℕ) (ms : Members) (ds : List Data) (entries : List Entry) → read text ≡ Some (object ms) → objects_in (object ms) ≡ Ok ds → entries_in ds ≡ Ok entries → text_says text ≡ Ok entries
unfolding data_in object_in
says_objects text ms ds entries is objects say = rw (is, objects, say) refl

-- the list, and flat members behind it that have other names, are all of the text
pub text_read : (text : List ℕ) (ts : List Token) (ms : List Member) (entries : List Entry)
    → tokens text ≡ Token.begin_object ∷ Token.key (field_name fields.Entries) ∷ Token.begin_array ∷ ts → AreListed ts (Token.end_array ∷ members_then ms (Token.end_object ∷ [])) entries
    → AreSound ms → list_all (λ m. not (bytes_eq m.name.now (field_name fields.Entries))) ms ≡ true → text_says text ≡ Ok entries
text_read text ts ms entries is so sound others =
    let name = field_name fields.Entries in
    let os = so.objects in
    let ds = map flat_json os in
    let listed = json.array (items_json os) in
    let j : json.Json = json.object (json.member name listed (members_json ms)) in
    let rest = members_tokens (members_json ms) in
    let whole : tokens text ≡ json_tokens j ++ [] =
    is ∙ ap (λ (l : List Token). Token.begin_object ∷ Token.key name ∷ Token.begin_array ∷ l)
    (so.come ∙ ap (λ (l : List Token). objects_then os (Token.end_array ∷ l)) (all_tokens ms []) ∙ list_tokens os (rest ++ []) ∙ sym (append_assoc (items_tokens (items_json os)) rest [])) in
    let value : of_json listed ≡ Some (array (items_of ds)) = ap (option_map array) (items_are os so.sound) in
    let all = put_all ms (put name (array (items_of ds)) no_members) in
    let read_is : read text ≡ Some (object all) =
    read_json j text whole (omega (arith, low os, shallow ms))
    ∙ ap (λ o. option_map object (option_and_then (λ d. of_members (members_json ms) (put name d no_members)) o)) value
    ∙ ap (option_map object) (members_are ms (put name (array (items_of ds)) no_members) sound) in
    let found : get_member name all ≡ Some (array (items_of ds)) = kept name ms (put name (array (items_of ds)) no_members) others ∙ get_member-put name (array (items_of ds)) no_members in
    says_objects text all ds entries read_is (objects_found (object all) ds (sym (ap (option_and_then as_array) found)) (objects_all os)) so.say
