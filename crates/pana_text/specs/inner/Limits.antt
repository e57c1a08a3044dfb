-- What a check keeps of a tree: whether it is normal, and its greatest level within the limit.
use Rattle.std.specs.Prelude.{ℕ, ◌+◌, ◌-◌, ◌*◌, ◌^◌, max, Bool, true, false, ◌&&◌, ◌||◌, not, nat_lt, ◌==◌, if◌then◌else◌, Option, Some, None, Result, Ok, Err, ⊤}
use Rattle.pana_event.specs.Event.{Event, leaf, fork}
use Rattle.pana_text.specs.declared.fault.TextFault.{TextFault}
use Rattle.pana_text.specs.declared.fault.TextFault.TheVariants.{NotNormal, TooLarge}
use Rattle.pana_text.specs.declared.id.IdKind.{IdKind}
use Rattle.pana_text.specs.declared.event.EventKind.{EventKind}
use Rattle.pana_text.specs.inner.Reading.{OfId, OfEvent}

-- the number, where it is below 2 ^ 64
abbrev pub fitted : ℕ → Option ℕ
fitted n = if nat_lt n (2 ^ 64) then Some n else None

-- a number with one more digit
abbrev pub with_digit : Option ℕ → ℕ → Option ℕ
with_digit None digit = None
with_digit (Some n) digit = fitted (n * 10 + digit)

abbrev pub sum_fitted : Option ℕ → Option ℕ → Option ℕ
sum_fitted (Some m) (Some n) = fitted (m + n)
sum_fitted (Some m) None = None
sum_fitted None n = None

abbrev pub max_fitted : Option ℕ → Option ℕ → Option ℕ
max_fitted (Some m) (Some n) = Some (max m n)
max_fitted (Some m) None = None
max_fitted None n = None

-- the number, or the greatest below 2 ^ 64
abbrev pub capped : Option ℕ → ℕ
capped (Some n) = n
capped None = 2 ^ 64 - 1

-- ---- ids

abbrev pub zero_kind : IdKind
zero_kind = record { is_zero = true; is_one = false; is_normal = true }

abbrev pub one_kind : IdKind
one_kind = record { is_zero = false; is_one = true; is_normal = true }

-- the halves are normal, and neither both 0 nor both 1
abbrev pub pair_kind : IdKind → IdKind → IdKind
pair_kind l r = record {
  is_zero = false;
  is_one = false;
  is_normal = ((l.is_normal && r.is_normal) && not (l.is_zero && r.is_zero)) && not (l.is_one && r.is_one);
}

abbrev pub id_kinds : OfId IdKind
id_kinds = record { of_zero = zero_kind; of_one = one_kind; of_pair = pair_kind }

-- ---- events

abbrev pub is_zero : Option ℕ → Bool
is_zero None = false
is_zero (Some n) = n == 0

abbrev pub leaf_kind : Option ℕ → EventKind
leaf_kind n = record { is_leaf_zero = is_zero n; from_zero = is_zero n; is_normal = true; greatest = n }

-- the halves are normal, one is from 0, and they aren't two leaves 0
abbrev pub fork_kind : Option ℕ → EventKind → EventKind → EventKind
fork_kind n l r = record {
  is_leaf_zero = false;
  from_zero = is_zero n;
  is_normal = ((l.is_normal && r.is_normal) && (l.from_zero || r.from_zero)) && not (l.is_leaf_zero && r.is_leaf_zero);
  greatest = sum_fitted n (max_fitted l.greatest r.greatest);
}

abbrev pub event_kinds : OfEvent (Option ℕ) EventKind
event_kinds = record { of_number = fitted; of_leaf = leaf_kind; of_fork = fork_kind }

-- the event with each number above the limit at the limit
abbrev pub capped_events : OfEvent (Option ℕ) Event
capped_events = record { of_number = fitted; of_leaf = λ n. leaf (capped n); of_fork = λ n l r. fork (capped n) l r }

-- ---- stamps

abbrev pub levels_judged : Option ℕ → Result ⊤ TextFault
levels_judged (Some n) = Ok tt
levels_judged None = Err TooLarge

-- which fault the kinds of two trees show: that of the form first, then that of the levels
abbrev pub judged_kinds : IdKind × EventKind → Result ⊤ TextFault
judged_kinds k = if k.0.is_normal && k.1.is_normal then levels_judged k.1.greatest else Err NotNormal
