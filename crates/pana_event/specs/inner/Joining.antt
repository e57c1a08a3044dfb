-- What the join of two events is: one of them, or an event of its own.
use Rattle.std.specs.Prelude.{◌≡◌, ℕ, Bool, true, false, ◌&&◌, Option, Some, None}
use Rattle.pana_event.specs.Event.{Event, lift}
use Rattle.pana_event.specs.Join.{join_of}
use Rattle.pana_event.specs.Shape.{tree}
use Rattle.pana_event.specs.declared.joining.Joined.{Joined}
use Rattle.pana_event.specs.declared.joining.Joined.TheVariants.{First, Second, Both, New}

-- an event is the first, the second, both, or that of a node
abbrev pub IsOneOf : Event → Event → Event → Joined → Type 0
IsOneOf first second e First = e ≡ first
IsOneOf first second e Second = e ≡ second
IsOneOf first second e Both = (e ≡ first) × (e ≡ second)
IsOneOf first second e (New node) = tree node ≡ e

-- the join of two events, the first lifted by a and the second by b
abbrev pub IsJoined : ℕ → Event → ℕ → Event → Joined → Type 0
IsJoined a e b f = IsOneOf (lift e a) (lift f b) (join_of a e b f)

abbrev pub is_first : Joined → Bool
is_first First = true
is_first Second = false
is_first Both = true
is_first (New node) = false

abbrev pub is_second : Joined → Bool
is_second First = false
is_second Second = true
is_second Both = true
is_second (New node) = false

-- the same, where the second event stands first
abbrev pub reversed : Joined → Joined
reversed First = Second
reversed Second = First
reversed Both = Both
reversed (New node) = New node

-- both, the first or the second, as it is said
abbrev pub shared_by : Bool → Bool → Option Joined
shared_by true true = Some Both
shared_by true false = Some First
shared_by false true = Some Second
shared_by false false = None

-- what the join of two forks is, where those of their halves are one of them
abbrev pub whole_of : Joined → Joined → Option Joined
whole_of left right = shared_by (is_first left && is_first right) (is_second left && is_second right)
