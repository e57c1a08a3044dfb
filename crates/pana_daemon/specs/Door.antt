-- What a worker's share in a listener gives, and what it draws for that.
use Rattle.std.specs.Prelude.{◌≡◌, ◌⊎◌, ◌+◌, ◌<◌, ℕ, Bool, true, false, List, Option, Some, None, sum_by, min}
use Rattle.std.specs.List.{list_any}
use Rattle.pana_tickets.specs.declared.hand.Hand.{Hand}
use Rattle.pana_tickets.specs.Hands.{TicketsView, hand}

-- a door: the tickets, its share in them, and whether it has ended though a ticket may be left
pub record DoorView : Type 0 where
  pub tickets : TicketsView
  pub hand : Hand
  pub is_closed : Bool

-- one part of so many tickets, which has drawn none
abbrev pub new_hand : ℕ → Hand
new_hand most = hand most 1 0 0

-- a door before its first connection
abbrev pub new_door : TicketsView → DoorView
new_door tickets = record { tickets = tickets; hand = new_hand tickets.most; is_closed = false }

-- the share is one part, and has found none left only where it says so
pub record HasShare (tickets : TicketsView) (is_out : Bool) (share : Hand) : Type 0 where
  pub most : share.most ≡ tickets.most
  pub part : share.parts ≡ 1
  pub more : is_out ≡ false → share.missed ≡ 0
  pub none : is_out ≡ true → 0 < share.missed

-- the same door, which has drawn so many tickets more
pub record HasDrawn (old : DoorView) (more : ℕ) (new : DoorView) : Type 0 where
  pub tickets : new.tickets ≡ old.tickets
  pub most : new.hand.most ≡ old.hand.most
  pub parts : new.hand.parts ≡ old.hand.parts
  pub drawn : new.hand.drawn ≡ old.hand.drawn + more

-- no ticket is left, or no further connection is to be taken
abbrev pub HasEnded : DoorView → Type 0
HasEnded door = (door.is_closed ≡ true) ⊎ (0 < door.hand.missed)

-- a ticket is drawn for the next one; there is none only where no ticket is left, or where no further one is to be taken
abbrev pub TakesDrawn : {C : Type 0} → DoorView → Option C → DoorView → Type 0
TakesDrawn old (Some taken) new = HasDrawn old 1 new
TakesDrawn old None new = ((more : ℕ) × HasDrawn old more new) × HasEnded new

-- A ticket was drawn for the connection, and one for each that can't be served and was passed over before it. There is none
-- only where no ticket is left, or where no further connection is to be taken.
abbrev pub GivesDrawn : {C : Type 0} → DoorView → Option C → DoorView → Type 0
GivesDrawn old (Some connection) new = (passed : ℕ) × HasDrawn old (passed + 1) new
GivesDrawn old None new = ((passed : ℕ) × HasDrawn old passed new) × HasEnded new

-- how many tickets doors have drawn
abbrev pub drawn_by : List DoorView → ℕ
drawn_by doors = sum_by (λ door. door.hand.drawn) doors

-- whether one of them has ended though a ticket may be left
abbrev pub is_one_closed : List DoorView → Bool
is_one_closed doors = list_any (λ door. door.is_closed) doors

-- how many connections are taken, of those that are wanted: all, where there is no number, so more than ever come
abbrev pub limit_of : Option ℕ → ℕ
limit_of None = 4611686018427387904
limit_of (Some wanted) = min wanted 4611686018427387904
