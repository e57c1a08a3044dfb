-- A flat object is read as its members, the last of each name.
use Rattle.std.proofs.Common.{◌≡◌, ℕ, ◌+◌, ◌<◌, ◌≤◌, ◌^◌, Bool, true, false, cond, ◌==◌, List, [], ◌∷◌, ◌++◌, length, take, get_or, Option, Some, None, option_map, option_and_then, refl, sym, ap, subst, ◌∙◌, arith, append-nil, append_assoc, ne_eqb}
use Rattle.std.specs.Str.{bytes_eq}
use Rattle.std.specs.Str.Parse.{digits_value, without_leading_plus, IsNumeral}
use Rattle.std.proofs.lemmas.Bool.{lt-ltb, false≢true}
use Rattle.std.proofs.lemmas.List.{take_more}
use Rattle.std.proofs.lemmas.Slice.Eq.{bytes_eq-Decides}
use Rattle.std.proofs.lemmas.Str.Parse.{digit_from_value}
use Rattle.fast_float.specs.Text.{Parts, IsWellFormed, scan, digits_of}
use Rattle.fast_float.proofs.Writing.{scan-text_of}
use Rattle.json.specs.Token.{Token}
use Rattle.json.specs.Print.{IsNumber}
use Rattle.json.specs.Word.{after_number}
use Rattle.json.specs.Lex.{tokens}
use Rattle.json.specs.Json as json
use Rattle.json.specs.Tree.{json_tokens, members_tokens, depth, members_depth}
use Rattle.json.proofs.Printed.Trees.{value-json_tokens}
use Rattle.serde_json.specs.Data.{unsigned, number, object, Members, no_members, put}
use Rattle.serde_json.specs.Find.{get_member}
use Rattle.serde_json.specs.Read.{number_of, number_from, of_json, of_members, read}
use Rattle.serde_json.proofs.Views.{get_member-put, get_member-put_other}
use Rattle.pana_wire.specs.declared.flat_object.Content.{Content}
use Rattle.pana_wire.specs.declared.flat_object.Content.TheVariants.{Text, Number, Null}
use Rattle.pana_wire.specs.declared.flat_object.Member.{Member}
use Rattle.pana_wire.specs.inner.FlatObject.{AreSound, IsSound, content_data, content_of, content_token, members_then, put_all}

-- ---- a number

-- no number of JSON begins with a plus
no_plus : (c : ℕ) (cs : List ℕ) → IsNumber (c ∷ cs) → c ≡ 43 → ⊥
unfolding after_number
no_plus c cs is plus = let none : after_number (c ∷ cs) ≡ None = rw plus refl in let both : None ≡ Some [] = sym none ∙ is in cc

bare : (s : List ℕ) → IsNumber s → (get_or s 0 0 == 43) ≡ false
bare [] is = refl
bare (c ∷ cs) is = ne_eqb c 43 (no_plus c cs is)

-- nor digits with a minus
unsigned_digits : (s : List ℕ) → IsNumeral 10 s → (get_or s 0 0 == 45) ≡ false
unsigned_digits [] is = absurd (omega (arith, is.0))
unsigned_digits (d ∷ ds) is = let digit = digit_from_value d is.1.0 in ne_eqb d 45 (λ e. omega (arith, e, digit.0))

digits_read : (s : List ℕ) → IsNumeral 10 s → digits_value 10 s < 2 ^ 64 → number_of s ≡ Some (unsigned (digits_value 10 s))
unfolding number_of
digits_read s is fits =
    let p : Parts = record { whole = s; point = false; fraction = []; exponent_negative = false; exponent = []; len = length (s ++ []) } in
    let formed : IsWellFormed p = record { whole_digits = is.1; fraction_digits = tt; exponent_digits = tt; no_point = λ _. refl; no_exponent = λ _. refl; len_is = refl } in
    let parts : scan s ≡ p = ap scan (sym (append-nil s)) ∙ scan-text_of p formed in
    let some = lt-ltb 0 (length s) is.0 in
    let whole : digits_of p ≡ digits_value 10 s = ap (digits_value 10) (append-nil s) in
    let small = lt-ltb (digits_value 10 s) (2 ^ 64) fits in
    rw (unsigned_digits s is) (ap (number_from false) parts ∙ rw (some, whole, small) refl)

-- what is parsed is read as the same number
pub natural_is : (s : List ℕ) (n : ℕ) → IsNumber s → IsNumeral 10 (without_leading_plus s) → digits_value 10 (without_leading_plus s) < 2 ^ 64 → n ≡ digits_value 10 (without_leading_plus s)
    → number_of s ≡ Some (unsigned n)
natural_is s n is digits fits value =
    let same : without_leading_plus s ≡ s = rw (bare s is) refl in
    digits_read s (subst (IsNumeral 10) same digits) (subst (λ (l : List ℕ). digits_value 10 l < 2 ^ 64) same fits) ∙ ap (λ (k : ℕ). Some (unsigned k)) (sym (value ∙ ap (digits_value 10) same))

-- ---- members

-- one more member was read
pub one_more : (ms : List Member) (m : Member) (rest : List Token) → members_then ms (Token.key m.name.now ∷ content_token m.content ∷ rest) ≡ members_then (ms ++ m ∷ []) rest
one_more [] m rest = refl
one_more (n ∷ ms) m rest = ap (λ (l : List Token). Token.key n.name.now ∷ content_token n.content ∷ l) (one_more ms m rest)

pub sound_push : (ms : List Member) (m : Member) → AreSound ms → IsSound m.content → AreSound (ms ++ m ∷ [])
sound_push [] m sound last = (last, tt)
sound_push (n ∷ ms) m sound last = (sound.0, sound_push ms m sound.1 last)

-- a content and members as they are read
abbrev content_json : Content → json.Json
content_json (Text s) = json.string s.now
content_json (Number s n) = json.number s.now
content_json Null = json.null

abbrev pub members_json : List Member → json.Members
members_json [] = json.no_members
members_json (m ∷ ms) = json.member m.name.now (content_json m.content) (members_json ms)

one_token : (c : Content) (ts : List Token) → content_token c ∷ ts ≡ json_tokens (content_json c) ++ ts
one_token (Text s) ts = refl
one_token (Number s n) ts = refl
one_token Null ts = refl

pub all_tokens : (ms : List Member) (ts : List Token) → members_then ms (Token.end_object ∷ ts) ≡ members_tokens (members_json ms) ++ ts
all_tokens [] ts = refl
all_tokens (m ∷ ms) ts =
    ap (λ (l : List Token). Token.key m.name.now ∷ content_token m.content ∷ l) (all_tokens ms ts)
    ∙ ap (λ (l : List Token). Token.key m.name.now ∷ l) (one_token m.content (members_tokens (members_json ms) ++ ts) ∙ sym (append_assoc (json_tokens (content_json m.content)) (members_tokens (members_json ms)) ts))

flat : (c : Content) → depth (content_json c) ≡ 0
flat (Text s) = refl
flat (Number s n) = refl
flat Null = refl

pub shallow : (ms : List Member) → members_depth (members_json ms) ≡ 0
shallow [] = refl
shallow (m ∷ ms) = omega (arith, flat m.content, shallow ms)

content_is : (c : Content) → IsSound c → of_json (content_json c) ≡ Some (content_data c)
content_is (Text s) sound = refl
content_is (Number s n) sound = ap (option_map number) sound.1
content_is Null sound = refl

pub members_are : (ms : List Member) (found : Members) → AreSound ms → of_members (members_json ms) found ≡ Some (put_all ms found)
members_are [] found sound = refl
members_are (m ∷ ms) found sound =
    ap (option_and_then (λ d. of_members (members_json ms) (put m.name.now d found))) (content_is m.content sound.0) ∙ members_are ms (put m.name.now (content_data m.content) found) sound.1

-- the tokens are those of a value in JSON, and no more
pub read_json : (j : json.Json) (text : List ℕ) → tokens text ≡ json_tokens j ++ [] → depth j ≤ 127 → read text ≡ of_json j
read_json j text is shallow =
    let value : json.value 127 (tokens text) ≡ Some (j, []) = ap (json.value 127) is ∙ value-json_tokens j 127 [] shallow in
    ap (λ (o : Option (json.Json × List Token)). option_and_then of_json (option_and_then (λ p. json.if_last p.0 p.1) o)) value

-- the members between the braces are all of the text
pub read_flat : (ms : List Member) (text : List ℕ) → tokens text ≡ Token.begin_object ∷ members_then ms (Token.end_object ∷ []) → AreSound ms → read text ≡ Some (object (put_all ms no_members))
read_flat ms text is sound =
    let j : json.Json = json.object (members_json ms) in
    read_json j text (is ∙ ap (λ (l : List Token). Token.begin_object ∷ l) (all_tokens ms [])) (omega (arith, shallow ms)) ∙ ap (option_map object) (members_are ms no_members sound)

-- ---- what is found

named : (b : Bool) (name k : List ℕ) (c : Content) (before : Option Content) (found : Members) → bytes_eq k name ≡ b → option_map content_data before ≡ get_member name found
    → option_map content_data (cond b (Some c) before) ≡ get_member name (put k (content_data c) found)
named true name k c before found is h =
    let same : k ≡ name = (bytes_eq-Decides k name).0 is in
    sym (rw same (get_member-put name (content_data c) found))
named false name k c before found is h =
    h ∙ sym (get_member-put_other name k (content_data c) found (λ e. false≢true (sym is ∙ (bytes_eq-Decides k name).1 (sym e))))

pub content_found : (name : List ℕ) (ms : List Member) (before : Option Content) (found : Members) → option_map content_data before ≡ get_member name found
    → option_map content_data (content_of name ms before) ≡ get_member name (put_all ms found)
content_found name [] before found h = h
content_found name (m ∷ ms) before found h = content_found name ms _ _ (named (bytes_eq m.name.now name) name m.name.now m.content before found refl h)

-- one member more
content_last : (name : List ℕ) (ms : List Member) (m : Member) (found : Option Content) → content_of name (ms ++ m ∷ []) found ≡ cond (bytes_eq m.name.now name) (Some m.content) (content_of name ms found)
content_last name [] m found = refl
content_last name (n ∷ ms) m found = content_last name ms m (cond (bytes_eq n.name.now name) (Some n.content) found)

content_step : (name : List ℕ) (ms : List Member) (i left : ℕ) (d : Member) → left ≡ i + 1 → i < length ms
    → content_of name (take left ms) None ≡ cond (bytes_eq (get_or ms i d).name.now name) (Some (get_or ms i d).content) (content_of name (take i ms) None)
content_step name ms i left d one less =
    ap (λ (k : ℕ). content_of name (take k ms) None) one ∙ ap (λ (l : List Member). content_of name l None) (take_more ms i d less) ∙ content_last name (take i ms) (get_or ms i d) None

-- from the end: a member of another name is passed over, and one of this name is what is found
pub content_passed : (name : List ℕ) (ms : List Member) (i left : ℕ) (d : Member) → left ≡ i + 1 → i < length ms → bytes_eq (get_or ms i d).name.now name ≡ false
    → content_of name (take left ms) None ≡ content_of name (take i ms) None
content_passed name ms i left d one less other = content_step name ms i left d one less ∙ rw other refl

pub content_met : (name : List ℕ) (ms : List Member) (i left : ℕ) (d : Member) → left ≡ i + 1 → i < length ms → bytes_eq (get_or ms i d).name.now name ≡ true
    → content_of name (take left ms) None ≡ Some (get_or ms i d).content
content_met name ms i left d one less this = content_step name ms i left d one less ∙ rw this refl
