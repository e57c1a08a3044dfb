-- The words for what is asked, and the fields that each has.
use Rattle.std.specs.Prelude.{ℕ, List, [], ◌∷◌, codes, Option, find}
use Rattle.std.specs.Str.{bytes_eq}
use Rattle.pana_wire.specs.declared.field.Field.{Field}
use Rattle.pana_wire.specs.declared.field.Field.TheVariants as fields
use Rattle.pana_wire.specs.declared.word.Word.{Word}
use Rattle.pana_wire.specs.declared.word.Word.TheVariants.{Register, Duplicate, Edit, Reconcile, Merge, Relocate, Remove, Note, Confirm, Withdraw, Found, Missing, Families, Board, Stamps, Pair, Holdings, At, Status, Journal, Counts}

-- the word as it is spelled
abbrev pub word_name : Word → List ℕ
word_name Register = codes "register"
word_name Duplicate = codes "duplicate"
word_name Edit = codes "edit"
word_name Reconcile = codes "reconcile"
word_name Merge = codes "merge"
word_name Relocate = codes "relocate"
word_name Remove = codes "remove"
word_name Note = codes "note"
word_name Confirm = codes "confirm"
word_name Withdraw = codes "withdraw"
word_name Found = codes "found"
word_name Missing = codes "missing"
word_name Families = codes "families"
word_name Board = codes "board"
word_name Stamps = codes "stamps"
word_name Pair = codes "pair"
word_name Holdings = codes "holdings"
word_name At = codes "at"
word_name Status = codes "status"
word_name Journal = codes "journal"
word_name Counts = codes "counts"

-- the fields of a word beside `by` and `do`, in the order in which they are tried
abbrev pub fields_of : Word → List Field
fields_of Register = fields.Device ∷ fields.Path ∷ fields.Sum ∷ []
fields_of Duplicate = fields.Copy ∷ fields.Device ∷ fields.Path ∷ fields.Sum ∷ []
fields_of Edit = fields.Copy ∷ fields.Sum ∷ []
fields_of Reconcile = fields.A ∷ fields.B ∷ fields.Sum ∷ []
fields_of Merge = fields.A ∷ fields.B ∷ fields.Sum ∷ []
fields_of Relocate = fields.Copy ∷ fields.Device ∷ fields.Path ∷ []
fields_of Remove = fields.Copy ∷ fields.Heir ∷ []
fields_of Note = fields.Copy ∷ fields.Sum ∷ []
fields_of Confirm = fields.Entry ∷ []
fields_of Withdraw = fields.Entry ∷ []
fields_of Found = fields.Device ∷ fields.Path ∷ fields.Sum ∷ []
fields_of Missing = fields.Device ∷ fields.Path ∷ []
fields_of Families = []
fields_of Board = fields.Family ∷ []
fields_of Stamps = fields.Family ∷ []
fields_of Pair = fields.A ∷ fields.B ∷ []
fields_of Holdings = fields.Device ∷ fields.From ∷ []
fields_of At = fields.Device ∷ fields.Path ∷ []
fields_of Status = fields.Device ∷ fields.From ∷ []
fields_of Journal = fields.From ∷ fields.Wait ∷ []
fields_of Counts = []

-- all words
abbrev pub words : List Word
words = Register ∷ Duplicate ∷ Edit ∷ Reconcile ∷ Merge ∷ Relocate ∷ Remove ∷ Note ∷ Confirm ∷ Withdraw ∷ Found ∷ Missing ∷ Families ∷ Board ∷ Stamps ∷ Pair ∷ Holdings ∷ At ∷ Status ∷ Journal ∷ Counts ∷ []

-- the word that a text is
unfoldable pub word_of : List ℕ → Option Word
word_of text = find (λ word. bytes_eq (word_name word) text) words
