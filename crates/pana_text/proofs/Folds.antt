-- The steps of reading one after the other, and what a reader makes of a tree.
use Rattle.std.proofs.Common.{◌≡◌, ℕ, ◌^◌, ◌<◌, List, refl, ap, ◌∙◌, arith, Option, Result, Ok}
use Rattle.pana_id.specs.Id.{Id, zero_id, one_id, pair}
use Rattle.pana_event.specs.Event.{Event, leaf, fork, greatest}
use Rattle.pana_text.specs.declared.fault.TextFault.{TextFault}
use Rattle.pana_text.specs.inner.Reading.{◌>>=◌, after, OfId, ids, id_at, OfEvent, fork_closed, event_at, at_end}
use Rattle.pana_text.specs.inner.Limits.{capped, capped_events}
use Rattle.pana_text.proofs.Digits.{fitted-at}

abbrev pub folded_id : {A : Type 0} → OfId A → Id → A
folded_id of zero_id = of.of_zero
folded_id of one_id = of.of_one
folded_id of (pair l r) = of.of_pair (folded_id of l) (folded_id of r)

abbrev pub folded : {N A : Type 0} → OfEvent N A → Event → A
folded of (leaf n) = of.of_leaf (of.of_number n)
folded of (fork n l r) = of.of_fork (of.of_number n) (folded of l) (folded of r)

pub folded-ids : (i : Id) → folded_id ids i ≡ i
folded-ids zero_id = refl
folded-ids one_id = refl
folded-ids (pair l r) = ap (λ (k : Id). pair k (folded_id ids r)) (folded-ids l) ∙ ap (λ (k : Id). pair l k) (folded-ids r)

-- no number is above the limit, so the tree is the same with its numbers at the limit
pub folded-capped : (e : Event) → greatest e < 2 ^ 64 → folded capped_events e ≡ e
folded-capped (leaf n) h = ap (λ (m : Option ℕ). leaf (capped m)) (fitted-at n h)
folded-capped (fork n l r) h =
    ap (λ (m : Option ℕ). fork (capped m) (folded capped_events l) (folded capped_events r)) (fitted-at n (omega arith))
    ∙ (ap (λ (k : Event). fork n k (folded capped_events r)) (folded-capped l (omega arith)) ∙ ap (λ (k : Event). fork n l k) (folded-capped r (omega arith)))

-- ---- ids

abbrev pub closed : {A : Type 0} → OfId A → ℕ → A → A × List ℕ → Result (A × List ℕ) TextFault
closed of total l r = after total 41 r.1 >>= λ rest. Ok (of.of_pair l r.0, rest)

abbrev pub right_half : {A : Type 0} → OfId A → ℕ → (List ℕ → Result (A × List ℕ) TextFault) → A → List ℕ → Result (A × List ℕ) TextFault
right_half of total half l text = half text >>= closed of total l

abbrev pub after_left : {A : Type 0} → OfId A → ℕ → (List ℕ → Result (A × List ℕ) TextFault) → A × List ℕ → Result (A × List ℕ) TextFault
after_left of total half l = after total 44 l.1 >>= right_half of total half l.0

-- ---- events

abbrev pub fork_right : {N A : Type 0} → OfEvent N A → ℕ → (List ℕ → Result (A × List ℕ) TextFault) → N → A → List ℕ → Result (A × List ℕ) TextFault
fork_right of total half n l text = half text >>= fork_closed of total n l

abbrev pub fork_after_left : {N A : Type 0} → OfEvent N A → ℕ → (List ℕ → Result (A × List ℕ) TextFault) → N → A × List ℕ → Result (A × List ℕ) TextFault
fork_after_left of total half n l = after total 44 l.1 >>= fork_right of total half n l.0

abbrev pub after_number : {N A : Type 0} → OfEvent N A → ℕ → (List ℕ → Result (A × List ℕ) TextFault) → N × List ℕ → Result (A × List ℕ) TextFault
after_number of total half n = half n.1 >>= fork_after_left of total half n.0

-- ---- stamps

abbrev pub closing : {A B : Type 0} → ℕ → A → B × List ℕ → Result (A × B) TextFault
closing total i e = after total 41 e.1 >>= λ rest. at_end total rest >>= λ end. Ok (i, e.0)

abbrev pub event_part : {A N B : Type 0} → OfEvent N B → ℕ → ℕ → A → List ℕ → Result (A × B) TextFault
event_part of total deepest i text = event_at of total deepest text >>= closing total i

abbrev pub after_id : {A N B : Type 0} → OfEvent N B → ℕ → ℕ → A × List ℕ → Result (A × B) TextFault
after_id of total deepest i = after total 44 i.1 >>= event_part of total deepest i.0

abbrev pub id_part : {A N B : Type 0} → OfId A → OfEvent N B → ℕ → ℕ → List ℕ → Result (A × B) TextFault
id_part of_id of total deepest text = id_at of_id total deepest text >>= after_id of total deepest
