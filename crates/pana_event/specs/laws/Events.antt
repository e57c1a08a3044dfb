-- Laws of events, which functions with an empty body ensure.
use Rattle.std.specs.Prelude.{◌≡◌, ℕ, ◌≤◌, ◌↔◌, max, IsTrue}
use Rattle.pana_event.specs.Event.{Event, fork, norm, level, number, least, greatest, depth, IsNormal, IsSound, AtPoints, IsLeastLevel, IsGreatestLevel}
use Rattle.pana_event.specs.Join.{joined, IsJoin}
use Rattle.pana_event.specs.Order.{is_leq, IsBelow}

-- normal events that agree at all points are one tree
abbrev pub AgreeingAreSame : Type 0
AgreeingAreSame = (e f : Event) → IsNormal e → IsNormal f → depth e ≤ 256 → depth f ≤ 256 → AtPoints (λ point. level e point ≡ level f point) → e ≡ f

-- normal events that are each below the other are one tree
abbrev pub BelowEachOtherAreSame : Type 0
BelowEachOtherAreSame = (e f : Event) → IsNormal e → IsNormal f → depth e ≤ 256 → depth f ≤ 256 → IsBelow e f → IsBelow f e → e ≡ f

-- the test says exactly whether one event is below another that is normal
abbrev pub BelowIsTested : Type 0
BelowIsTested = (e f : Event) → IsNormal f → depth e ≤ 256 → depth f ≤ 256 → IsTrue (is_leq e f) ↔ IsBelow e f

-- the join of two events has the greater level at every point
abbrev pub JoinHasGreaterLevels : Type 0
JoinHasGreaterLevels = (e f : Event) → depth e ≤ 256 → depth f ≤ 256 → IsJoin e f (joined e f)

-- the order of two events doesn't matter to their join
abbrev pub JoinHasNoOrder : Type 0
JoinHasNoOrder = (e f : Event) → joined e f ≡ joined f e

-- the greatest level of a join is the greater of both
abbrev pub JoinAddsNoLevel : Type 0
JoinAddsNoLevel = (e f : Event) → greatest (joined e f) ≡ max (greatest e) (greatest f)

-- the join of two events that are within the limits is
abbrev pub JoinKeepsLimits : Type 0
JoinKeepsLimits = (e f : Event) → IsSound e → IsSound f → IsSound (joined e f)

-- whatever has the greater level at every point is the join, if it is normal
abbrev pub JoinIsOne : Type 0
JoinIsOne = (e f join : Event) → IsNormal e → IsNormal f → IsNormal join → depth e ≤ 256 → depth f ≤ 256 → depth join ≤ 256 → IsJoin e f join → join ≡ joined e f

-- the least level is that of some point, and no point's is below it; a normal event's is its own number
abbrev pub LeastIsAttained : Type 0
LeastIsAttained = (e : Event) → depth e ≤ 256 → IsLeastLevel e (least e) × (IsNormal e → least e ≡ number e)

-- the greatest level is that of some point, and no point's is above it
abbrev pub GreatestIsAttained : Type 0
GreatestIsAttained = (e : Event) → depth e ≤ 256 → IsGreatestLevel e (greatest e)

-- the normal form over normal halves is normal
abbrev pub NormIsNormal : Type 0
NormIsNormal = (n : ℕ) (l r : Event) → IsNormal l → IsNormal r → IsNormal (norm n l r)

-- the normal form has the levels of the fork
abbrev pub NormKeepsLevels : Type 0
NormKeepsLevels = (n : ℕ) (l r : Event) → AtPoints (λ point. level (norm n l r) point ≡ level (fork n l r) point)
