-- The object of entries with a digest.
use Rattle.std.specs.Prelude.{ℕ, List, codes}
use Rattle.hex.specs.Hex.{encode_lower}
use Rattle.serde_json.specs.Data.{Data, string, object, member, no_members}
use Rattle.pana_journal.specs.declared.entry.Entry.{Entry}
use Rattle.pana_wire.specs.Reply.{entries_data}

-- the entries, and the digits
unfoldable pub sealed_data : List Entry → List ℕ → Data
sealed_data entries digest = object (
    member (codes "entries") (entries_data entries) (
    member (codes "sha256") (string (encode_lower digest))
    no_members))
