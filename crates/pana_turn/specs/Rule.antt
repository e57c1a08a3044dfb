-- What the table keeps true at every moment: its two words, its slot, and what each seat knows.
use Rattle.std.specs.Prelude.{◌≡◌, ℕ, ◌+◌, ◌<◌, ◌≤◌, ◌⊎◌, List, [], ◌∷◌, length, slice_index, sum_by, All, Some}
use Rattle.std.specs.Prelude.{Option as Maybe}
use Rattle.std.specs.List.{AllByRecursion}
use mathlib.Core.List.{IsPrefix}
use mathlib.Core.Option.{Option, none, some}
use lib.ListN.{get_elem?}
use Rattle.atomic_table.specs.Table.{State}
use Rattle.pana_turn.specs.declared.finished_call.FinishedCall.{FinishedCall}
use Rattle.pana_turn.specs.declared.view.Account.{Account}
use Rattle.pana_turn.specs.declared.view.Stage.{Stage}
use Rattle.pana_turn.specs.declared.view.Stage.TheVariants.{Idle, Tested, Drawn, Turn}
use Rattle.pana_turn.specs.declared.view.View.{View}
use Rattle.pana_turn.specs.History.{IsHistory, calls_of, left_by}

-- the key of a desk's table: how many passes there are, and the state that it was opened with
pub record DeskKey (S : Type 0) : Type 0 where
  pub seats : ℕ
  pub begun : S

-- what stands behind the words: the state at the start, the history, how many tickets were drawn, the seat that speaks for each pass, and the seat that drew each ticket
pub record Course (S C R : Type 0) : Type 0 where
  pub begun : S
  pub history : List (FinishedCall S C R)
  pub tickets : ℕ
  pub speaker : ℕ → ℕ
  pub holder : ℕ → ℕ

-- 1 where a ticket was drawn whose call isn't finished
abbrev pub drawn_at : Stage → ℕ
drawn_at Idle = 0
drawn_at Tested = 0
drawn_at (Drawn ticket) = 1
drawn_at Turn = 1

-- 1 where a call is on its way
abbrev pub busy_at : Stage → ℕ
busy_at Idle = 0
busy_at Tested = 1
busy_at (Drawn ticket) = 1
busy_at Turn = 1

module _ {S C R : Type 0} where
  -- the seat speaks for a pass of the desk, and the account has the state at the start and that pass's calls
  pub record IsAccountOf (seats : ℕ) (course : Course S C R) (seat : ℕ) (account : Account S C R) : Type 0 where
    pub within : account.number < seats
    pub begun : account.begun ≡ course.begun
    pub speaker : course.speaker account.number ≡ seat
    pub mine : calls_of account.number course.history ≡ account.mine
    pub seen : IsPrefix account.seen course.history

  -- a ticket that was drawn is the seat's and isn't past; the turn is the seat's whose ticket is the number of finished calls, and it has seen them all
  abbrev pub FitsStage : Course S C R → ℕ → List (FinishedCall S C R) → Stage → Type 0
  FitsStage course seat seen Idle = Unit {0}
  FitsStage course seat seen Tested = Unit {0}
  FitsStage course seat seen (Drawn ticket) = (course.holder ticket ≡ seat) × (length course.history ≤ ticket) × (ticket < course.tickets)
  FitsStage course seat seen Turn = (course.holder (length course.history) ≡ seat) × (length course.history < course.tickets) × (seen ≡ course.history)

  abbrev pub drawn_by : View S C R → ℕ
  drawn_by view = drawn_at view.stage

  abbrev pub busy_by : View S C R → ℕ
  busy_by view = busy_at view.stage

  -- how many passes a seat speaks for
  abbrev pub passes_of : View S C R → ℕ
  passes_of view = length view.accounts

  -- what a seat has seen begins the history, its accounts are of its passes, and it is busy only with a pass
  pub record Fits (seats : ℕ) (course : Course S C R) (seat : ℕ) (view : View S C R) : Type 0 where
    pub seen : IsPrefix view.seen course.history
    pub met : IsPrefix view.met course.history
    pub accounts : AllByRecursion (IsAccountOf seats course seat) view.accounts
    pub stage : FitsStage course seat view.seen view.stage
    pub busy : busy_by view ≤ passes_of view

  -- the machine is in its slot and no seat has the turn, or it is out and some seat has it
  abbrev pub IsHome : Course S C R → List (Option (Maybe S)) → List (View S C R) → Type 0
  IsHome course homes views =
      ((homes ≡ some (Some (left_by course.begun course.history)) ∷ []) × ((seat : ℕ) (view : View S C R) → get_elem? views seat ≡ some view → view.stage ≡ Turn → ⊥))
      ⊎ ((homes ≡ none ∷ []) × ((seat : ℕ) × (view : View S C R) × (get_elem? views seat ≡ some view) × (view.stage ≡ Turn)))

  -- no call is on its way
  abbrev pub AllIdle : List (View S C R) → Type 0
  AllIdle views = (seat : ℕ) (view : View S C R) → get_elem? views seat ≡ some view → view.stage ≡ Idle

  -- the seat has the turn, with this view
  abbrev pub HasTurn : List (View S C R) → ℕ → View S C R → Type 0
  HasTurn views seat view = (get_elem? views seat ≡ some view) × (view.stage ≡ Turn)

module _ {S C R : Type 0} (step : S → C → R → S → Type 0) where
  -- the table of a desk with this many passes, on this course
  pub record KeepsTo (seats : ℕ) (table : State (Maybe S) (View S C R)) (course : Course S C R) : Type 0 where
    -- word 0 is the number of tickets, word 1 that of finished calls
    pub words : table.words ≡ course.tickets ∷ length course.history ∷ []
    pub run : IsHistory step course.begun course.history
    pub known : All (λ finished. finished.pass < seats) course.history
    pub few : seats ≤ 64
    -- each pass has one seat that speaks for it
    pub given : sum_by passes_of table.views ≡ seats
    -- a ticket is drawn for each call, and the words never wrap
    pub drawn : length course.history + sum_by drawn_by table.views ≡ course.tickets
    pub room : length course.history + sum_by busy_by table.views ≤ 4611686018427387904 + seats
    pub fits : (seat : ℕ) (view : View S C R) → get_elem? table.views seat ≡ some view → Fits seats course seat view
    pub home : IsHome course table.homes table.views

  -- there is such a course, from the state that the desk was opened with
  abbrev pub Keeps : DeskKey S → State (Maybe S) (View S C R) → Type 0
  Keeps key table = (course : Course S C R) × KeepsTo key.seats table course × (course.begun ≡ key.begun)

  -- the machine is in its slot, as a history leaves it, and both words are that history's length
  pub record IsAtRest (begun : S) (table : State (Maybe S) (View S C R)) : Type 0 where
    pub history : List (FinishedCall S C R)
    pub run : IsHistory step begun history
    pub words : table.words ≡ length history ∷ length history ∷ []
    pub home : table.homes ≡ some (Some (left_by begun history)) ∷ []

  -- the machine is out, and what the seat has seen is a history, of the length in word 1
  pub record IsAway (begun : S) (table : State (Maybe S) (View S C R)) (view : View S C R) : Type 0 where
    pub run : IsHistory step begun view.seen
    pub finished : slice_index table.words 1 ≡ length view.seen
    pub away : table.homes ≡ none ∷ []
