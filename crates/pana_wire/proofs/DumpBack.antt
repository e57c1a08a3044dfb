-- How a dump is read: the list of its objects, and one entry after another.
use Rattle.std.proofs.Common.{◌≡◌, ℕ, ◌+◌, ◌<◌, true, false, List, [], ◌∷◌, ◌++◌, length, get_or, map, take, drop, Some, Result, Ok, Err, option_and_then, refl, sym, ap, ◌∙◌}
use Rattle.std.proofs.lemmas.List.{take-append-drop, map-append, drop_more}
use Rattle.serde_json.specs.Data.{Data}
use Rattle.serde_json.specs.Find.{get, as_array}
use Rattle.serde_json.specs.View.{items_of}
use Rattle.pana_journal.specs.declared.entry.Entry.{Entry}
use Rattle.pana_wire.specs.declared.field.Field.TheVariants as fields
use Rattle.pana_wire.specs.declared.fault.WireFault.{WireFault}
use Rattle.pana_wire.specs.declared.fault.WireFault.TheVariants.{TooLong, NotUtf8, NotJson, NotObject, BadField, OutOfMemory}
use Rattle.pana_wire.specs.Field.{field_name}
use Rattle.pana_wire.specs.Line.{◌>>=◌, Fails}
use Rattle.pana_wire.specs.Dump.{listed, are_objects, objects_in, entry_in, entries_in}

pub listed_items : (ds : List Data) → listed (items_of ds) ≡ ds
listed_items [] = refl
listed_items (d ∷ ds) = ap (λ l. d ∷ l) (listed_items ds)

-- the array in `entries`, and whether each of its values is an object
pub objects_found : (d : Data) (ds : List Data) → Some (items_of ds) ≡ option_and_then as_array (get (field_name fields.Entries) d) → are_objects ds ≡ true → objects_in d ≡ Ok ds
unfolding objects_in
objects_found d ds e all = rw (sym e, listed_items ds, all) refl

pub objects_missing : (d : Data) (ds : List Data) → Some (items_of ds) ≡ option_and_then as_array (get (field_name fields.Entries) d) → are_objects ds ≡ false → objects_in d ≡ Err (BadField fields.Entries)
unfolding objects_in
objects_missing d ds e all = rw (sym e, listed_items ds, all) refl

joined : (r : Result Entry WireFault) (b a : Result (List Entry) WireFault)
    → (r >>= λ e. (b >>= λ es. a >>= λ fs. Ok (es ++ fs)) >>= λ es. Ok (e ∷ es)) ≡ ((r >>= λ e. b >>= λ es. Ok (e ∷ es)) >>= λ es. a >>= λ fs. Ok (es ++ fs))
joined (Err fault) b a = refl
joined (Ok e) (Err fault) a = refl
joined (Ok e) (Ok es) (Err fault) = refl
joined (Ok e) (Ok es) (Ok fs) = refl

alone : (a : Result (List Entry) WireFault) → a ≡ (a >>= λ fs. Ok fs)
alone (Err fault) = refl
alone (Ok fs) = refl

-- the entries of some objects and then of others
pub entries_join : (before after : List Data) → entries_in (before ++ after) ≡ (entries_in before >>= λ es. entries_in after >>= λ fs. Ok (es ++ fs))
entries_join [] after = alone (entries_in after)
entries_join (d ∷ before) after = rw (entries_join before after) (joined (entry_in d) (entries_in before) (entries_in after))

-- one entry more
pub entries_more : (before : List Data) (d : Data) (entries : List Entry) (entry : Entry) → entries_in before ≡ Ok entries → entry_in d ≡ Ok entry
    → entries_in (before ++ d ∷ []) ≡ Ok (entries ++ entry ∷ [])
entries_more before d entries entry e is = entries_join before (d ∷ []) ∙ rw (e, is) refl

-- what an entry fails with is what the dump says, where the entries before it are read
said_at : (before : List Data) (d : Data) (after : List Data) (entries : List Entry) (fault : WireFault) → entries_in before ≡ Ok entries → entry_in d ≡ Err fault
    → entries_in (before ++ d ∷ after) ≡ Err fault
said_at before d after entries fault e is = entries_join before (d ∷ after) ∙ rw (e, is) refl

pub entries_fail : (before : List Data) (d : Data) (after : List Data) (entries : List Entry) (fault : WireFault) → entries_in before ≡ Ok entries → Fails fault (entry_in d)
    → Fails fault (entries_in (before ++ d ∷ after))
entries_fail before d after entries TooLong e fails = said_at before d after entries TooLong e fails
entries_fail before d after entries NotUtf8 e fails = said_at before d after entries NotUtf8 e fails
entries_fail before d after entries NotJson e fails = said_at before d after entries NotJson e fails
entries_fail before d after entries NotObject e fails = said_at before d after entries NotObject e fails
entries_fail before d after entries (BadField field) e fails = said_at before d after entries (BadField field) e fails
entries_fail before d after entries OutOfMemory e fails = tt

-- a list at an index
pub parted : {X : Type 0} (f : X → Data) (xs : List X) (i : ℕ) (x : X) → i < length xs → map f xs ≡ map f (take i xs) ++ f (get_or xs i x) ∷ map f (drop (i + 1) xs)
parted f xs i x lt =
    ap (map f) (sym (take-append-drop i xs)) ∙ map-append f (take i xs) (drop i xs) ∙ ap (λ l. map f (take i xs) ++ map f l) (drop_more xs i x lt)
