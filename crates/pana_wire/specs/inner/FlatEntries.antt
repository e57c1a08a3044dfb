-- Lines of flat entries: the tokens of their objects, and what these say.
use Rattle.std.specs.Prelude.{◌≡◌, ℕ, List, [], ◌∷◌, map, Result, Ok}
use Rattle.std.specs.List.{AllByRecursion}
use Rattle.json.specs.Token as token
use Rattle.pana_journal.specs.declared.entry.Entry.{Entry}
use Rattle.pana_wire.specs.declared.fault.WireFault.{WireFault}
use Rattle.pana_wire.specs.declared.flat_object.FlatObject.{FlatObject}
use Rattle.pana_wire.specs.Line.{◌>>=◌, data_in, object_in}
use Rattle.pana_wire.specs.Dump.{objects_in, entries_in}
use Rattle.pana_wire.specs.inner.FlatObject.{AreSound, flat_json, members_then}

-- the tokens of objects, and what comes after them
abbrev pub objects_then : List FlatObject → List token.Token → List token.Token
objects_then [] rest = rest
objects_then (o ∷ os) rest = token.begin_object ∷ members_then o.members.items (token.end_object ∷ objects_then os rest)

-- the tokens are those of objects that say these entries, and then the rest
pub record AreListed (tokens rest : List token.Token) (entries : List Entry) : Type 0 where
  pub objects : List FlatObject
  pub come : tokens ≡ objects_then objects rest
  pub sound : AllByRecursion (λ o. AreSound o.members.items) objects
  pub say : entries_in (map flat_json objects) ≡ Ok entries

-- what the text of a dump's line says
abbrev pub text_says : List ℕ → Result (List Entry) WireFault
text_says text = do
  d ← data_in text
  object ← object_in d
  objects ← objects_in object
  entries_in objects
