-- The list and what stands behind it are all of the text.
use Rattle.std.proofs.Common.{◌≡◌, ◌∷◌, [], List, not, true, refl, sym, ap, subst, ◌∙◌, rules}
use Rattle.std.specs.List.{list_all}
use Rattle.std.specs.Str.{bytes_eq}
use Rattle.json.specs.Lex.{tokens}
use Rattle.json.specs.Token.{Token, begin_array, begin_object, end_array, end_object, key}
use Rattle.pana_wire.specs.declared.field.Field.TheVariants as fields
use Rattle.pana_wire.specs.Field.{field_name}
use Rattle.pana_wire.specs.inner.FlatObject.{members_then}
use Rattle.pana_wire.specs.inner.FlatEntries.{AreListed}
use Rattle.pana_wire.proofs.FlatEntries.{text_read}
use Rattle.pana_wire.proofs.entry_reading.flat_entries.Goals as goal

pub returns-in-None : goal.returns-in-None
returns-in-None c =
    let ms = c.read_members.new.members.items in
    let entries = c.in_ok-entries.entries in
    let after = c.opens_entries.new.reader in
    let begins : tokens c.args.text.now ≡ c.in_ok-reader.reader = search rules in
    let opens : c.in_ok-reader.reader ≡ begin_object ∷ key (field_name fields.Entries) ∷ begin_array ∷ after = c.if-not-opens_entries.ensures refl in
    let slice : ms ≡ c.as_slice.result.now = search rules in
    let others : list_all (λ m. not (bytes_eq m.name.now (field_name fields.Entries))) ms ≡ true = ap (list_all (λ m. not (bytes_eq m.name.now (field_name fields.Entries)))) slice ∙ sym c.if-not-lack_entries.ensures in
    let behind : c.listed_in.new.reader ≡ members_then ms (end_object ∷ []) = c.in_ok-read_members.ensures.tokens ∙ ap (λ (ts : List Token). members_then ms (end_object ∷ ts)) c.in-None.ensures.value.0 in
    let listed : AreListed after (end_array ∷ members_then ms (end_object ∷ [])) entries = subst (λ (ts : List Token). AreListed after (end_array ∷ ts) entries) behind c.in_ok-entries.ensures in
    text_read c.args.text.now after ms entries (begins ∙ opens) listed c.in_ok-read_members.ensures.sound others
