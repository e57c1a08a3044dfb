-- The headline: what callers at a desk of a hall have made is one run of the hall, and each caller's calls are its own.
use Rattle.std.specs.Prelude.{◌≡◌, ◌⊎◌, ◌<◌, ◌==◌, ◌+◌, ℕ, false, All, List, [], ◌∷◌, ◌++◌, length, map, filter, Option, Some, None, option_map}
use Rattle.std.specs.Io.KnownBytes.{Consumes, Appends}
use mathlib.Core.List.{IsPrefix}
use Rattle.pana_journal.specs.declared.entry.Entry.{Entry}
use Rattle.pana_calls.specs.declared.call.Call.{Call}
use Rattle.pana_hall.specs.Run.{Exchange, IsRunFrom, journal_from}
use Rattle.pana_scan.specs.declared.baseline.BaselineRow.{BaselineRow}
use Rattle.pana_track.specs.Calls.{Asked}
use Rattle.pana_calls.specs.declared.answer.Answer.TheVariants.{Given}
use Rattle.pana_wire.specs.Lines.{lines_of}
use Rattle.pana_laws.specs.SessionRun.{IsRunOf}
use Rattle.pana_daemon.specs.declared.connection.Connection.{Connection}
use Rattle.pana_daemon.specs.Folder.{Deed, Gives, Taken, gives_look}
use Rattle.pana_daemon.specs.declared.folder.Look.{Look}
use Rattle.pana_daemon.specs.declared.post.Post.{Post}
use Rattle.pana_daemon.specs.declared.post.Post.TheVariants.{Door, Folder}
use Rattle.pana_daemon.specs.Objects.{given_of}
use Rattle.pana_daemon.specs.Scan.{IsLook, IsNext}

-- a call in the one run: the number of the caller that made it, and the call with its reply
pub record Turn : Type 0 where
  pub caller : ℕ
  pub exchange : Exchange

-- the calls of all, in order
abbrev pub exchanges : List Turn → List Exchange
exchanges turns = map (λ turn. turn.exchange) turns

-- the calls of one caller, in order
abbrev pub calls_by : ℕ → List Turn → List Exchange
calls_by number turns = exchanges (filter (λ turn. turn.caller == number) turns)

-- The first lines of what a session has read are answered by these calls, each line once and in order: by the reply to
-- its call, or by its fault. What the session has written are the first bytes of these answers.
pub record Answered (input output : List ℕ) (made : List Exchange) : Type 0 where
  pub lines : List (List ℕ)
  pub first : IsPrefix lines (lines_of input)
  pub answers : List ℕ
  pub are : IsRunOf lines made answers
  pub written : IsPrefix output answers

module _ {R W : Type 0} (remaining : R → Option (List ℕ)) (contents : W → Option (List ℕ)) where
  -- a connection was served by these calls, as one session: it has read this of the connection's bytes, and written that
  pub record IsTold (connection : Connection R W) (made : List Exchange) : Type 0 where
    pub input : List ℕ
    pub output : List ℕ
    pub unread : Option (List ℕ)
    pub written : Option (List ℕ)
    pub reads : Consumes (option_map given_of (remaining connection.reader)) unread input
    pub writes : Appends (contents connection.writer) written output
    pub answered : Answered input output made

-- an answered call, as a look at a folder has it
abbrev pub asked_of : Exchange → Asked
asked_of x = record { by = x.by; call = x.call; answer = Given x.reply }

-- the calls of looks, one after another, each of which begins with the baseline that the one before has left
abbrev pub AreLooks : List ℕ → List BaselineRow → List Taken → List Asked → List BaselineRow → Type 0
AreLooks device old [] made new = (made ≡ []) × (new ≡ old)
AreLooks device old (taken ∷ more) made new =
    (first : List Asked) × (others : List Asked) × (mid : List BaselineRow) × IsLook false device taken.look old first mid × AreLooks device mid more others new × (made ≡ first ++ others)

module _ {D R W F : Type 0} (gives : D → Option (Connection R W) → D → Type 0) (remaining : R → Option (List ℕ)) (contents : W → Option (List ℕ)) (does : F → Deed → F → Type 0) where
  -- the door gives these connections, and they were served one after another, each by calls of its own
  abbrev pub AreTold : D → List (Connection R W) → D → List Exchange → Type 0
  AreTold door [] last made = (last ≡ door) × (made ≡ [])
  AreTold door (connection ∷ connections) last made = (next : D) × (first : List Exchange) × (others : List Exchange)
      × gives door (Some connection) next × IsTold remaining contents connection first × AreTold next connections last others × (made ≡ first ++ others)

  -- there are none, or these are the calls of one more look, or the first of them
  abbrev pub IsRest : List ℕ → List BaselineRow → F → List Exchange → Type 0
  IsRest device baseline last rest = (rest ≡ []) ⊎ ((next : Look) × (after : F) × does last (gives_look next) after
      × (((left : List BaselineRow) × IsLook false device next baseline (map asked_of rest) left) ⊎ ((call : Call) × IsNext device next baseline (map asked_of rest) call)))

  -- what a caller was to do was done by these calls: the connections that its door gave were served, until it gave no
  -- more; or its folder was looked at, and learned what became of each look before the next
  abbrev pub HasMade : Post D F → List Exchange → Type 0
  HasMade (Door door) made = (connections : List (Connection R W)) × (last : D) × (after : D) × AreTold door connections last made × gives last None after
  HasMade (Folder device folder) made = (given : List Taken) × (baseline : List BaselineRow) × (last : F) × (whole : List Exchange) × (rest : List Exchange)
      × Gives does folder given last × AreLooks device.now [] given (map asked_of whole) baseline × IsRest device.now baseline last rest × (made ≡ whole ++ rest)

  -- and so for each caller, numbered from this number on
  abbrev pub HaveMade : ℕ → List (Post D F) → List Turn → Type 0
  HaveMade number [] turns = Unit {0}
  HaveMade number (post ∷ posts) turns = HasMade post (calls_by number turns) × HaveMade (number + 1) posts turns

  -- There is one run of the hall, which leaves its journal: each reply is permitted on the journal that all calls before it
  -- leave, from the one that the hall began with. Each caller's calls in it are those by which it did what it was to do, in
  -- order, and there are no others. All other requests at the desk were to settle, which changes no hall.
  pub record IsOneRun (begun : List Entry) (posts : List (Post D F)) (left : List Entry) (requests : ℕ) : Type 0 where
    pub turns : List Turn
    pub settled : ℕ
    pub run : IsRunFrom begun (exchanges turns)
    pub leaves : left ≡ journal_from begun (exchanges turns)
    pub counted : requests ≡ length turns + settled
    pub own : HaveMade 0 posts turns
    pub others : All (λ turn. turn.caller < length posts) turns
