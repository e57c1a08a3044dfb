-- Lines of calls and of answers, as they are written and read.
use Rattle.std.specs.Prelude.{◌≡◌, ℕ, List, [], ◌∷◌, ◌++◌, ◌⊎◌, Option, Ok}
use Rattle.std.specs.Io.{StopsAt}
use Rattle.std.specs.Io.KnownBytes.{Appends, Consumes, Keeps}
use Rattle.pana_calls.specs.declared.answer.Answer.{Answer}
use Rattle.pana_calls.specs.declared.call.Call.{Call}
use Rattle.pana_wire.specs.Answer.{answer_text}
use Rattle.pana_wire.specs.Line.{line_says}
use Rattle.pana_wire.specs.Lines.{lines_of}
use Rattle.pana_wire.specs.Tap.{AppendsPrefix}

-- the text is one line, without its newline
abbrev pub IsOneLine : List ℕ → Type 0
IsOneLine text = lines_of (text ++ 10 ∷ []) ≡ text ∷ []

-- the text is one line, and `panad` reads it as this call of the device
pub record IsCallLine (by : List ℕ) (call : Call) (line : List ℕ) : Type 0 where
  pub one : IsOneLine line
  pub says : line_says line ≡ Ok (record { by = by; call = call })

-- the bytes are a line that is read as this call, and its newline
pub record IsSent (by : List ℕ) (call : Call) (bytes : List ℕ) : Type 0 where
  pub line : List ℕ
  pub is_call : IsCallLine by call line
  pub ends : bytes ≡ line ++ 10 ∷ []

-- what a writer holds has grown by one line, which says the call, and its newline
pub record WritesCall (by : List ℕ) (call : Call) (old new : Option (List ℕ)) : Type 0 where
  pub bytes : List ℕ
  pub sent : IsSent by call bytes
  pub written : Appends old new bytes

-- what a writer holds has grown by a prefix of such a line
pub record BeginsCall (by : List ℕ) (call : Call) (old new : Option (List ℕ)) : Type 0 where
  pub bytes : List ℕ
  pub sent : IsSent by call bytes
  pub written : AppendsPrefix old new bytes

-- a writer holds what it held, or has grown by a prefix of such a line
abbrev pub MayBegin : List ℕ → Call → Option (List ℕ) → Option (List ℕ) → Type 0
MayBegin by call old new = Keeps old new ⊎ BeginsCall by call old new

-- what a reader has left has lost this line, and its newline
pub record ReadsLine (line : List ℕ) (old new : Option (List ℕ)) : Type 0 where
  pub one : IsOneLine line
  pub read : Consumes old new (line ++ 10 ∷ [])

-- what a reader has left has lost one line, which is the text of this answer, and its newline
abbrev pub ReadsAnswer : Answer → Option (List ℕ) → Option (List ℕ) → Type 0
ReadsAnswer answer old new = ReadsLine (answer_text answer) old new

-- what a reader has left has lost no more than one line: no byte of it but the last is a newline
pub record ReadsPart (old new : Option (List ℕ)) : Type 0 where
  pub bytes : List ℕ
  pub stops : StopsAt bytes 10
  pub read : Consumes old new bytes
