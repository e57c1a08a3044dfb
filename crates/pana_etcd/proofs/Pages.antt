-- Records under keys, one after another.
use Rattle.std.specs.Prelude.{◌≡◌, ℕ, ◌+◌, List, [], ◌∷◌, ◌++◌, length, Option, Some, None, Result, Ok, Err}
use Rattle.std.proofs.Common.{refl, sym, ◌∙◌, arith, add-zero}
use Rattle.serde_json.specs.Data.{Data}
use Rattle.serde_json.specs.Find.{as_array}
use Rattle.serde_json.specs.View.{items_of}
use Rattle.pana_shared.specs.declared.record.Record.{Record}
use Rattle.pana_wire.proofs.DumpBack.{listed_items}
use Rattle.pana_etcd.specs.Answer.{list_of, more_of, record_at, records_from}

-- a list that is there
pub listed_as : (o : Option Data) (d : Data) (ds : List Data) → o ≡ Some d → Some (items_of ds) ≡ as_array d → Some ds ≡ list_of o
listed_as o d ds e found = rw (e, sym found, listed_items ds) refl

-- records, and then others
abbrev next : Result (List Record) ℕ → Result (List Record) ℕ → Result (List Record) ℕ
next (Err number) others = Err number
next (Ok records) (Err number) = Err number
next (Ok records) (Ok others) = Ok (records ++ others)

alone : (r : Result (List Record) ℕ) → r ≡ next (Ok []) r
alone (Err number) = refl
alone (Ok records) = refl

joined : (number : ℕ) (o : Option Record) (b a : Result (List Record) ℕ) → more_of number o (next b a) ≡ next (more_of number o b) a
joined number None b a = refl
joined number (Some found) (Err other) a = refl
joined number (Some found) (Ok records) (Err other) = refl
joined number (Some found) (Ok records) (Ok others) = refl

records_join : (name : List ℕ) (number : ℕ) (before after : List Data)
    → records_from name number (before ++ after) ≡ next (records_from name number before) (records_from name (number + length before) after)
records_join name number [] after = rw (add-zero number) (alone (records_from name number after))
records_join name number (d ∷ before) after =
    let there : number + length (d ∷ before) ≡ (number + 1) + length before = omega arith in
    rw (there, records_join name (number + 1) before after) (joined number (record_at name number d) (records_from name (number + 1) before) (records_from name ((number + 1) + length before) after))

-- one record more
pub records_more : (name : List ℕ) (number : ℕ) (before : List Data) (d : Data) (i : ℕ) (records : List Record) (found : Record)
    → length before ≡ i → records_from name number before ≡ Ok records → record_at name (number + i) d ≡ Some found
    → records_from name number (before ++ d ∷ []) ≡ Ok (records ++ found ∷ [])
records_more name number before d i records found at e is = records_join name number before (d ∷ []) ∙ rw (e, at, is) refl

-- the first number under whose key there is none
pub records_end : (name : List ℕ) (number : ℕ) (before : List Data) (d : Data) (after : List Data) (i : ℕ) (records : List Record)
    → length before ≡ i → records_from name number before ≡ Ok records → record_at name (number + i) d ≡ None
    → records_from name number (before ++ d ∷ after) ≡ Err (number + i)
records_end name number before d after i records at e none = records_join name number before (d ∷ after) ∙ rw (e, at, none) refl
