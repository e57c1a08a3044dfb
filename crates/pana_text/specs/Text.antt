-- The one text of each id, event and stamp.
use Rattle.std.specs.Prelude.{◌≡◌, ℕ, List, [], ◌∷◌, ◌++◌, decimal}
use Rattle.pana_id.specs.Id.{Id, zero_id, one_id, pair, IsValid}
use Rattle.pana_event.specs.Event.{Event, leaf, fork, IsSound}

-- texts in parentheses, with commas between them
abbrev pub in_two : List ℕ → List ℕ → List ℕ
in_two first second = 40 ∷ (first ++ (44 ∷ (second ++ (41 ∷ []))))

abbrev pub in_three : List ℕ → List ℕ → List ℕ → List ℕ
in_three first second third = 40 ∷ (first ++ (44 ∷ (second ++ (44 ∷ (third ++ (41 ∷ []))))))

-- the text of an id: 0, 1, or its halves
abbrev pub id_text : Id → List ℕ
id_text zero_id = 48 ∷ []
id_text one_id = 49 ∷ []
id_text (pair l r) = in_two (id_text l) (id_text r)

-- the text of an event: its number, and after that of a fork its halves
abbrev pub event_text : Event → List ℕ
event_text (leaf n) = decimal n
event_text (fork n l r) = in_three (decimal n) (event_text l) (event_text r)

-- the text of a stamp: its id and its event
abbrev pub stamp_text : Id → Event → List ℕ
stamp_text i e = in_two (id_text i) (event_text e)

-- the text is that of this stamp, whose trees are normal and within the limits
abbrev pub IsTextOf : Id → Event → List ℕ → Type 0
IsTextOf i e text = IsValid i × IsSound e × (text ≡ stamp_text i e)

-- the text is that of some stamp
abbrev pub IsTextOfStamp : List ℕ → Type 0
IsTextOfStamp text = (i : Id) × (e : Event) × IsTextOf i e text
