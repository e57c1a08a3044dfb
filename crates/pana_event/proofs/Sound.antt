-- What the calls of `EventTree` ensure, on plain events.
use Rattle.std.proofs.Common.{◌≡◌, ◌≤◌, ◌↔◌, max, arith, IsTrue}
use Rattle.pana_event.specs.Event.{Event, least, greatest, depth, IsNormal, IsSound, IsLeastLevel, IsGreatestLevel}
use Rattle.pana_event.specs.Join.{joined, IsJoin}
use Rattle.pana_event.specs.Order.{is_leq, IsBelow}
use Rattle.pana_event.proofs.Joins.{greatest-join_of, depth-join_of, normal-join_of, level-join_of, join_of_comm}
use Rattle.pana_event.proofs.Levels.{least-le-level, level-le-greatest, lowest, highest}
use Rattle.pana_event.proofs.Orders.{leq-is-below, below-is-leq}
use Rattle.pana_event.proofs.Points.{same-tree}

pub IsLeastLevel-least : (e : Event) → depth e ≤ 256 → IsLeastLevel e (least e)
IsLeastLevel-least e shallow =
    record {
      bound = λ point long. least-le-level e point (omega arith);
      attained = lowest e 256 shallow;
    }

pub IsGreatestLevel-greatest : (e : Event) → depth e ≤ 256 → IsGreatestLevel e (greatest e)
IsGreatestLevel-greatest e shallow =
    record { bound = λ point long. level-le-greatest e point; attained = highest e 256 shallow }

pub greatest-joined : (e f : Event) → greatest (joined e f) ≡ max (greatest e) (greatest f)
greatest-joined e f = omega (arith, greatest-join_of 0 e 0 f)

pub joined_comm : (e f : Event) → joined e f ≡ joined f e
joined_comm e f = join_of_comm 0 e 0 f

pub IsJoin-joined : (e f : Event) → depth e ≤ 256 → depth f ≤ 256 → IsJoin e f (joined e f)
IsJoin-joined e f first second =
    record { levels = λ point long. omega (arith, level-join_of 0 e 0 f point (omega arith) (omega arith)) }

pub IsSound-joined : (e f : Event) → IsSound e → IsSound f → IsSound (joined e f)
IsSound-joined e f first second =
    record {
      normal = normal-join_of 0 e 0 f first.normal second.normal;
      shallow = omega (arith, depth-join_of 0 e 0 f);
      fits = omega (arith, greatest-joined e f);
    }

-- the test is true exactly where the one event is below the other
pub leq_says : (e f : Event) → IsNormal f → depth e ≤ 256 → depth f ≤ 256 → IsTrue (is_leq e f) ↔ IsBelow e f
leq_says e f normal first second =
    (λ leq. leq-is-below e f first second leq, λ below. below-is-leq e f first second normal below)

-- normal events of which each is below the other are one tree
pub same_below : (e f : Event) → IsNormal e → IsNormal f → depth e ≤ 256 → depth f ≤ 256 → IsBelow e f → IsBelow f e → e ≡ f
same_below e f normal others first second up down =
    same-tree 256 e f normal others first second (λ point long. omega (arith, up.levels point long, down.levels point long))

-- a normal event with the levels of the join is the join
pub joined_is_one : (e f join : Event) → IsNormal e → IsNormal f → IsNormal join → depth e ≤ 256 → depth f ≤ 256 → depth join ≤ 256 → IsJoin e f join → join ≡ joined e f
joined_is_one e f join normal others joint first second shallow is =
    same-tree 256 join (joined e f) joint (normal-join_of 0 e 0 f normal others) shallow (omega (arith, depth-join_of 0 e 0 f)) (λ point long. omega (arith, is.levels point long, level-join_of 0 e 0 f point (omega arith) (omega arith)))
