-- Doors that have ended, and their shares together.
use Rattle.std.specs.Prelude.{◌≡◌, ℕ, List, [], ◌∷◌, map}
use Rattle.pana_tickets.specs.declared.hand.Hand.{Hand}
use Rattle.pana_tickets.specs.Hands.{TicketsView, joined}
use Rattle.pana_daemon.specs.declared.post.Post.{Post}
use Rattle.pana_daemon.specs.Door.{DoorView, HasDrawn, HasEnded}
use Rattle.pana_daemon.specs.Post.{doors_in}

-- the doors' shares, in order
abbrev pub hands_of : List DoorView → List Hand
hands_of doors = map (λ door. door.hand) doors

abbrev pub hands_in : {F : Type 0} → List (Post DoorView F) → List Hand
hands_in posts = hands_of (doors_in posts)

-- a share together with others
abbrev pub joined_all : Hand → List Hand → Hand
joined_all h [] = h
joined_all h (g ∷ gs) = joined_all (joined h g) gs

-- the doors are of these tickets
abbrev pub AreOf : TicketsView → List DoorView → Type 0
AreOf tickets [] = Unit {0}
AreOf tickets (door ∷ doors) = (door.tickets ≡ tickets) × AreOf tickets doors

-- a door of these tickets that has ended, with its one part
pub record IsLeft (tickets : TicketsView) (door : DoorView) : Type 0 where
  pub of : door.tickets ≡ tickets
  pub most : door.hand.most ≡ tickets.most
  pub part : door.hand.parts ≡ 1
  pub ended : HasEnded door

abbrev pub AreLeft : TicketsView → List DoorView → Type 0
AreLeft tickets [] = Unit {0}
AreLeft tickets (door ∷ doors) = IsLeft tickets door × AreLeft tickets doors

-- each door has drawn some tickets, and has ended
abbrev pub AreEnded : List DoorView → List DoorView → Type 0
AreEnded [] [] = Unit {0}
AreEnded [] (new ∷ news) = ⊥
AreEnded (old ∷ olds) [] = ⊥
AreEnded (old ∷ olds) (new ∷ news) = ((more : ℕ) × HasDrawn old more new) × HasEnded new × AreEnded olds news
