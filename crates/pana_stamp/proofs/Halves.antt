-- The halves of an event, where a leaf is taken as a fork of two leaves 0.
use Rattle.std.proofs.Common.{◌≡◌, ◌+◌, ◌-◌, ◌≤◌, min, Bool, true, false, List, ◌∷◌, arith, refl}
use Rattle.pana_event.specs.Event.{Event, leaf, fork, number, level, greatest, depth, IsNormal}
use Rattle.pana_event.proofs.Levels.{number-le-greatest}
use Rattle.pana_stamp.specs.Grow.{left_of, right_of}

pub greatest-left_of : (e : Event) → greatest (left_of e) ≤ greatest e
greatest-left_of (leaf n) = omega arith
greatest-left_of (fork n l r) = omega arith

pub greatest-right_of : (e : Event) → greatest (right_of e) ≤ greatest e
greatest-right_of (leaf n) = omega arith
greatest-right_of (fork n l r) = omega arith

pub ruleset half_limits = (greatest-left_of, greatest-right_of, number-le-greatest)

pub depth-left_of : (e : Event) → depth (left_of e) ≤ depth e - 1
depth-left_of (leaf n) = omega arith
depth-left_of (fork n l r) = omega arith

pub depth-right_of : (e : Event) → depth (right_of e) ≤ depth e - 1
depth-right_of (leaf n) = omega arith
depth-right_of (fork n l r) = omega arith

pub level-left_of : (e : Event) (point : List Bool) → level e (false ∷ point) ≡ number e + level (left_of e) point
level-left_of (leaf n) point = omega arith
level-left_of (fork n l r) point = refl

pub level-right_of : (e : Event) (point : List Bool) → level e (true ∷ point) ≡ number e + level (right_of e) point
level-right_of (leaf n) point = omega arith
level-right_of (fork n l r) point = refl

pub normal-left_of : (e : Event) → IsNormal e → IsNormal (left_of e)
normal-left_of (leaf n) normal = tt
normal-left_of (fork n l r) normal = normal.1

pub normal-right_of : (e : Event) → IsNormal e → IsNormal (right_of e)
normal-right_of (leaf n) normal = tt
normal-right_of (fork n l r) normal = normal.2

pub one_is_zero : (e : Event) → IsNormal e → min (number (left_of e)) (number (right_of e)) ≡ 0
one_is_zero (leaf n) normal = refl
one_is_zero (fork n l r) normal = normal.0.from_zero
