-- The entries that a journal's file stands for.
use Rattle.std.specs.Prelude.{◌≡◌, ◌⊎◌, ◌≤◌, ℕ, true, List, [], ◌∷◌, length, take, Ok}
use Rattle.pana_journal.specs.declared.entry.Entry.{Entry}
use Rattle.pana_wire.specs.Dump.{dump_says}
use Rattle.pana_wire.specs.DumpLines.{Say}
use Rattle.pana_log.specs.Lines.{recovered, IsWhole}
use Rattle.pana_seal.specs.Seal.{is_sealed, IsIntact}

-- the file loads to these entries, whatever a crash made of it: its lines are as they were sealed, and say them
abbrev pub LoadsTo : List Entry → List ℕ → Type 0
LoadsTo entries file = Say (recovered file) entries × IsIntact (recovered file)

-- the file loads to the first n of the entries, for some n that is this at least
abbrev pub LoadsFirst : ℕ → List Entry → List ℕ → Type 0
LoadsFirst least entries file = (n : ℕ) × (least ≤ n) × (n ≤ length entries) × LoadsTo (take n entries) file

-- the file loads to the entries of before, all of them, or to those of after
abbrev pub LoadsEither : List Entry → List Entry → List ℕ → Type 0
LoadsEither before after file = LoadsTo before file ⊎ LoadsTo after file

-- a line that a journal can hold, with its newline: it says these entries and no other, and is no longer than a line of a dump
pub record IsLineOf (entries : List Entry) (text : List ℕ) : Type 0 where
  pub whole : IsWhole text
  pub line : List ℕ
  pub one : recovered text ≡ line ∷ []
  pub says : dump_says line ≡ Ok entries
  pub short : length text ≤ 1048577

-- a line, with its newline, that is sealed behind these bytes
abbrev pub IsSealedBehind : List ℕ → List ℕ → Type 0
IsSealedBehind before text = (line : List ℕ) × (recovered text ≡ line ∷ []) × (is_sealed before line ≡ true)
