-- The grammar of stamps, by cases over bytes, without limits or normal forms; and what a fault says of a text.
use Rattle.std.specs.Prelude.{◌≡◌, ℕ, zero, suc, ◌+◌, ◌-◌, ◌*◌, ◌≤◌, nat_le, ◌==◌, ◌^◌, Bool, true, ◌&&◌, if◌then◌else◌, List, [], ◌∷◌, ◌++◌, length, take, Option, Some, None, ◌⊎◌}
use Rattle.pana_id.specs.Id.{Id, IsNormal as IsNormalId, depth as depth_of_id}
use Rattle.pana_event.specs.Event.{Event, leaf as leaf_of, fork as fork_of, IsNormal, depth, greatest}
use Rattle.pana_text.specs.declared.fault.TextFault.{TextFault}
use Rattle.pana_text.specs.declared.fault.TextFault.TheVariants.{Syntax, TooDeep, NotNormal, TooLarge, OutOfMemory}
use Rattle.pana_text.specs.Text.{in_two, in_three, id_text, IsTextOfStamp}

-- ---- the grammar

abbrev pub is_digit : ℕ → Bool
is_digit b = nat_le 48 b && nat_le b 57

-- all bytes are digits
abbrev pub all_digits : List ℕ → Bool
all_digits [] = true
all_digits (b ∷ rest) = is_digit b && all_digits rest

-- a 0 that stands alone, or a digit from 1 to 9 and any digits after it
abbrev pub IsNumber : List ℕ → Type 0
IsNumber [] = ⊥
IsNumber (b ∷ rest) = ((b ≡ 48) × (rest ≡ [])) ⊎ ((49 ≤ b) × (b ≤ 57) × (all_digits rest ≡ true))

-- an event with its numbers as they are spelled
pub data Spelled : Type 0 where
  leaf : List ℕ → Spelled
  fork : List ℕ → Spelled → Spelled → Spelled

abbrev pub HasNumbers : Spelled → Type 0
HasNumbers (leaf n) = IsNumber n
HasNumbers (fork n l r) = IsNumber n × HasNumbers l × HasNumbers r

abbrev pub spelling : Spelled → List ℕ
spelling (leaf n) = n
spelling (fork n l r) = in_three n (spelling l) (spelling r)

-- an id and an event in parentheses, with a comma between them
abbrev pub IsInGrammar : List ℕ → Type 0
IsInGrammar text = (i : Id) × (e : Spelled) × HasNumbers e × (text ≡ in_two (id_text i) (spelling e))

-- the number n with these digits after it
abbrev pub number_from : ℕ → List ℕ → ℕ
number_from n [] = n
number_from n (b ∷ rest) = number_from (n * 10 + (b - 48)) rest

-- the event that is spelled so
abbrev pub event_of : Spelled → Event
event_of (leaf n) = leaf_of (number_from 0 n)
event_of (fork n l r) = fork_of (number_from 0 n) (event_of l) (event_of r)

-- the text spells these two trees, which are within the depth
pub record Spells (text : List ℕ) (i : Id) (e : Event) : Type 0 where
  pub spelled : Spelled
  pub numbers : HasNumbers spelled
  pub event : event_of spelled ≡ e
  pub whole : text ≡ in_two (id_text i) (spelling spelled)
  pub id_within : depth_of_id i ≤ 256
  pub event_within : depth e ≤ 256

-- ---- depth

-- how many more parentheses may open after the byte, when so many might before; none where one opened too many
abbrev pub room_after : ℕ → ℕ → Option ℕ
room_after zero b = if b == 40 then None else (if b == 41 then Some 1 else Some 0)
room_after (suc n) b = if b == 40 then Some n else (if b == 41 then Some (suc (suc n)) else Some (suc n))

-- the same after all bytes
abbrev pub room : Option ℕ → List ℕ → Option ℕ
room None text = None
room (Some n) [] = Some n
room (Some n) (b ∷ rest) = room (room_after n b) rest

-- ---- faults

-- the byte at the position is the first that the grammar doesn't have there, or the text ends there too early: some
-- text of the grammar begins with the prefix, and none goes on with what follows it. The prefix is within the depth.
abbrev pub IsFirstWrong : ℕ → List ℕ → Type 0
IsFirstWrong position text =
    (prefix : List ℕ) × (rest : List ℕ) × (text ≡ prefix ++ rest) × (position ≡ length prefix)
    × ((end : List ℕ) × IsInGrammar (prefix ++ end))
    × ((end : List ℕ) → take 1 end ≡ take 1 rest → IsInGrammar (prefix ++ end) → ⊥)
    × ((left : ℕ) × (room (Some 257) prefix ≡ Some left))

-- some text of the grammar begins so, and after the prefix, which is within the depth, one parenthesis more opens
-- inside the 257 that are open: those of the stamp and of 256 trees
abbrev pub OpensTooDeep : List ℕ → Type 0
OpensTooDeep text =
    (prefix : List ℕ) × (rest : List ℕ) × (text ≡ prefix ++ (40 ∷ rest)) × ((end : List ℕ) × IsInGrammar (prefix ++ (40 ∷ end)))
    × (room (Some 257) prefix ≡ Some 0)

-- what a fault says of the text
abbrev pub Says : TextFault → List ℕ → Type 0
Says (Syntax position) text = IsFirstWrong position text
Says TooDeep text = OpensTooDeep text
Says NotNormal text = (i : Id) × (e : Event) × Spells text i e × (IsNormalId i × IsNormal e → ⊥)
Says TooLarge text = (i : Id) × (e : Event) × Spells text i e × IsNormalId i × IsNormal e × (2 ^ 64 ≤ greatest e)
Says OutOfMemory text = IsTextOfStamp text
