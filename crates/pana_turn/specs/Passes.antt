-- What contracts see of a desk, of its passes, and of notes.
use Rattle.std.specs.Prelude.{◌≡◌, ℕ, List, [], ◌∷◌, ◌++◌, map}
use Rattle.std.specs.List.{range_with_len}
use Rattle.atomic_table.specs.Seated.{TableId}
use Rattle.pana_turn.specs.declared.finished_call.FinishedCall.{FinishedCall}
use Rattle.pana_turn.specs.History.{calls_of}

-- which desk it is, and the state of the machine that it was opened with
pub record DeskId (S : Type 0) : Type 0 where
  pub table : TableId
  pub begun : S

-- a desk: which it is, and how many passes it has
pub record DeskView (S : Type 0) : Type 0 where
  pub id : DeskId S
  pub seats : ℕ

-- a pass: its desk, its number there, and the history that it has seen
pub record PassView (S C R : Type 0) : Type 0 where
  pub desk : DeskId S
  pub number : ℕ
  pub seen : List (FinishedCall S C R)

-- a note: its desk, and the history that the pass which wrote it had seen
pub record NoteView (S C R : Type 0) : Type 0 where
  pub desk : TableId
  pub seen : List (FinishedCall S C R)

module _ {S C R : Type 0} where
  -- the calls that the pass itself made, of those that it has seen
  abbrev pub own_calls : PassView S C R → List (FinishedCall S C R)
  own_calls pass = calls_of pass.number pass.seen

  -- the pass before its first call
  abbrev pub new_pass : DeskId S → ℕ → PassView S C R
  new_pass desk number = record { desk = desk; number = number; seen = [] }

  -- the passes of a new desk, numbered from 0
  abbrev pub new_passes : DeskId S → ℕ → List (PassView S C R)
  new_passes desk seats = map (new_pass desk) (range_with_len 0 seats)

  -- one pass, before and after: what it has seen may differ
  abbrev pub IsSamePass : PassView S C R → PassView S C R → Type 0
  IsSamePass old new = (new.desk ≡ old.desk) × (new.number ≡ old.number)

  -- the pass made this call: it is the last of what was seen, and what was seen between is of other passes
  pub record AddsCall (old new : PassView S C R) (call : C) (reply : R) : Type 0 where
    pub between : List (FinishedCall S C R)
    pub others : calls_of old.number between ≡ []
    pub left : S
    pub seen : new.seen ≡ (old.seen ++ between) ++ record { pass = old.number; call = call; reply = reply; left = left } ∷ []
